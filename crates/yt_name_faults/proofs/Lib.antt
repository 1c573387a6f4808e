mod ChainLemmas
mod CycleLemmas
mod FirstLemmas
mod HandlerLemmas
mod IndexLemmas
pub mod Lemmas
mod ListLemmas
mod OwnLemmas
mod PartLemmas
mod TreeLemmas
