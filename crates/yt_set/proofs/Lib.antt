pub mod Lemmas
mod Demands
mod Hyperperiods
mod Multiples
mod NamedLemmas
mod Numbers
