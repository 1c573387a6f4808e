-- What is due to the canonical text of a graph that is asked for.
use Rattle.std.specs.Prelude.{◌≡◌, ℕ, List}
use Rattle.yt_grammar.specs.CanonicalText.{canonical_text}
use Rattle.yt_grammar.specs.SamePlaces.{ReadsAs}
use Rattle.yt_answer.specs.declared.verdict.Verdict.{Verdict}
use Rattle.yt_answer.specs.declared.verdict.Verdict.TheVariants.{Done}
use Rattle.yt_admit.specs.Trees.{TreeCause, tree_verdict, IsTreeText}

-- why: the graph's text has no tree that is judged, or it has one
abbrev pub FormCause : List ℕ → Type 0
FormCause graph = TreeCause graph (λ items. Unit {0})

-- the verdict
abbrev pub form_verdict : {graph : List ℕ} → FormCause graph → Verdict
form_verdict cause = tree_verdict (λ items why. Done) cause

-- its text: the canonical text of the tree, which is read as the same tree but for places
abbrev pub IsFormText : {graph : List ℕ} → FormCause graph → List ℕ → Type 0
IsFormText cause told = IsTreeText (λ items why line. (line ≡ canonical_text items) × ReadsAs line items) cause told
