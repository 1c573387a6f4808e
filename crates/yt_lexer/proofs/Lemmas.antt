-- The lemmas that proofs of other crates cite.
pub use Rattle.yt_lexer.proofs.LexesLemmas.{lexes_once}
