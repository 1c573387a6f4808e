-- What callers cite: of faults, of lists that are built item by item, of trees that are cut at a place, and of parts.
pub use Rattle.yt_name_faults.proofs.FirstLemmas.{no_fault}
pub use Rattle.yt_name_faults.proofs.ListLemmas.{map_map, grows, grows_by, joins, and_none}
pub use Rattle.yt_name_faults.proofs.TreeLemmas.{cut, exprs_cut, stmts_cut}
pub use Rattle.yt_name_faults.proofs.PartLemmas.{trees_are}
