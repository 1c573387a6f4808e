-- The lemmas that proofs of other crates cite.
pub use Rattle.yt_playing.proofs.Plays.{miss_is_due, plays_miss}
