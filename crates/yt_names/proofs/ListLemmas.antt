-- Lists to which nothing is added.
pub use Rattle.yt_name_faults.proofs.Lemmas.{and_none}
