pub mod Lemmas
mod Orders
