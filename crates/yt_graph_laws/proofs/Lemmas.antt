-- The lemmas that proofs of other crates cite.
pub use Rattle.yt_graph_laws.proofs.NamesApart.{names_are_apart}
