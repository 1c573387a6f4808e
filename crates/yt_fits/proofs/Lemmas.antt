-- The lemmas that proofs of other crates cite.
pub use Rattle.yt_fits.proofs.IntervalLemmas.{breach_unfits, fits_from_room, room_next}
