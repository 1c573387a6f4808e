use Rattle.std.proofs.Common.{◌≡◌, ◌+◌, ◌<◌, ◌≤◌, length, drop, slice_range, refl, arith}
use Rattle.std.specs.List.{prefix_len, position_or_len}
use Rattle.std.proofs.lemmas.Grind.{common_steps}
use Rattle.std.proofs.lemmas.List.Sums.{prefix_len_stops, prefix_len_passes}
use Rattle.yt_base.specs.Lines.{is_blank}
use Rattle.yt_base.proofs.FieldLemmas.{field_begins, fields_of_blanks, fields_of_step, range_of_range, range_behind}
use Rattle.yt_base.proofs.span.next_field.Goals as goal

pub returns-then-start-part-clause-none : goal.returns-then-start-part-clause-none
returns-then-start-part-clause-none c =
    (λ _ k d lt. prefix_len_passes is_blank (slice_range c.args.text.now c.args.from c.args.to) k d (grind (arith, common_steps)), λ _. refl)

pub returns-clause-none : goal.returns-clause-none
returns-clause-none c =
    let part = slice_range c.args.text.now c.args.from c.args.to in
    let short : prefix_len is_blank part < length part = grind (arith, common_steps) in
    let stops = prefix_len_stops is_blank part 0 short in
    (λ e. cc, λ all. let here = all (prefix_len is_blank part) 0 short in cc)

pub returns-clause-inside : goal.returns-clause-inside
returns-clause-inside c =
    let part = slice_range c.args.text.now c.args.from c.args.to in
    let short : prefix_len is_blank part < length part = grind (arith, common_steps) in
    let begins = field_begins is_blank part short in
    grind (arith, common_steps)

pub returns-then-start-part-clause-fields : goal.returns-then-start-part-clause-fields
returns-then-start-part-clause-fields c =
    fields_of_blanks (slice_range c.args.text.now c.args.from c.args.to) (grind (arith, common_steps))

pub returns-clause-fields : goal.returns-clause-fields
returns-clause-fields c =
    let text = c.args.text.now in
    let part = slice_range text c.args.from c.args.to in
    let start = c.blanks-start.result in
    let n = c.before_blank.result in
    let short : prefix_len is_blank part < length part = grind (arith, common_steps) in
    let whole = fields_of_step part short in
    let within : c.args.from + (start + n) ≤ c.args.to = grind (arith, common_steps) in
    let first = range_of_range text c.args.from c.args.to start n within in
    let more = range_behind text c.args.from c.args.to start n within in
    let at-start : prefix_len is_blank part ≡ start = grind (arith, common_steps) in
    let ends : position_or_len is_blank (drop start part) ≡ n = grind (arith, common_steps) in
    rw (first, more) (rw ends at (rw at-start at whole))
