use Rattle.std.proofs.Common.{rules, tests, ℕ, List, Bor}
use Rattle.std.specs.Prelude.{bytes_eq}
use Rattle.std.proofs.lemmas.Iterator.{YieldsList-from_slice}
use Rattle.std.proofs.lemmas.Iterator.Search.{any_from_yields_List}
use Rattle.yt_graph.proofs.reserved_words.reserved.Goals as goal

pub returns : goal.returns
returns c =
    any_from_yields_List (λ (r : Bor (List ℕ)). bytes_eq r.now c.args.word.now) _ _ _ c.any.ensures.ran (YieldsList-from_slice _ c.iter.ensures.rest) (λ x b q k. search (rules, tests))
