-- The lemmas that proofs of other crates cite.
pub use Rattle.yt_parser.proofs.parsing.Lexed.{lexes-tokens}
