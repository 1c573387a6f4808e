use Rattle.std.proofs.Common.{List, ℕ, not, bytes_eq, map, ap, ◌∙◌}
use Rattle.std.specs.Borrow.{Bor}
use Rattle.std.specs.List.{position_or_len, list_any}
use Rattle.yt_table.specs.Tables.{is_among, with_name}
use Rattle.yt_table.proofs.ReadKeys.{any_read, position_read, read_if}
use Rattle.yt_table.proofs.name_set.NameSet.insert_full.Goals as goal

pub returns-clause-names : goal.returns-clause-names
returns-clause-names c =
    let name = c.args.name in
    let keys = c.self.inside.names.keys in
    let read = λ (k : Bor (List ℕ)). k.now in
    ap (map read) c.in_ok-insert_full.ensures.keys
    ∙ read_if read (list_any (λ k. bytes_eq name.now k.now) keys) (is_among name.now (map read keys)) keys name (any_read read (bytes_eq name.now) keys)
    ∙ ap (with_name name.now) c.self.view_is

pub returns-clause-index : goal.returns-clause-index
returns-clause-index c =
    c.in_ok-insert_full.ensures.index
    ∙ position_read (λ k. k.now) (bytes_eq c.args.name.now) c.self.inside.names.keys
    ∙ ap (position_or_len (bytes_eq c.args.name.now)) c.self.view_is

pub returns-clause-added : goal.returns-clause-added
returns-clause-added c =
    c.in_ok-insert_full.ensures.added
    ∙ ap not (any_read (λ k. k.now) (bytes_eq c.args.name.now) c.self.inside.names.keys)
    ∙ ap (λ l. not (is_among c.args.name.now l)) c.self.view_is
