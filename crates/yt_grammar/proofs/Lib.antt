pub mod Lemmas
mod reading
mod written
