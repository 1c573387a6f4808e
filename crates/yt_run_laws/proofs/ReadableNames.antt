-- Names that can be told apart and have no white space are distinct words of a run's text.
use Rattle.std.proofs.Common.{◌≡◌, ℕ, List, [], ◌∷◌, map, eqb, not, true, false, refl, ap}
use Rattle.std.specs.List.{list_all, list_any}
use Rattle.std.proofs.lemmas.Bool.{and_from, or_parts}
use Rattle.std.proofs.lemmas.List.Elements.{All-weaker}
use Rattle.yt_graph.specs.declared.graph.Output.{Output}
use Rattle.yt_graph.specs.Labels.{labels_of}
use Rattle.yt_lexer.specs.First.{is_space}
use Rattle.yt_graph_laws.specs.NamesApart.{AreApart}
use Rattle.yt_graph_laws.proofs.Lemmas.{names_are_apart}
use Rattle.yt_run.specs.Readable.{is_not, stays_in_word, AreDistinctWords}
use Rattle.yt_run_laws.specs.ReadableNames.{NamesAreReadable}

-- a byte that is no white space stays in a word
stays : (b : ℕ) → is_space b ≡ false → stays_in_word b ≡ true
stays b h =
    let a = or_parts (eqb b 32) _ h in
    let c = or_parts (eqb b 9) _ a.1 in
    let d = or_parts (eqb b 13) (eqb b 10) c.1 in
    and_from (is_not 32 b) (is_not 10 b) (ap not a.0) (ap not d.1)

word : (name : List ℕ) → list_any is_space name ≡ false → list_all stays_in_word name ≡ true
word [] h = refl
word (b ∷ bs) h = let parts = or_parts (is_space b) (list_any is_space bs) h in and_from (stays_in_word b) (list_all stays_in_word bs) (stays b parts.0) (word bs parts.1)

words : (names : List (List ℕ)) → AreApart names → AreDistinctWords names
words names h = record {
  different = h.different;
  words = All-weaker (λ name. list_any is_space name ≡ false) (λ name. list_all stays_in_word name ≡ true) word names h.whole;
}

pub names_are_readable : NamesAreReadable
names_are_readable g fine =
    let h = names_are_apart g fine in
    record { ports = words (labels_of g) h.ports; outputs = words (map (λ (o : Output). o.name) g.outputs) h.outputs }
