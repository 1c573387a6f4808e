mod TaskLines
mod Reasons
pub mod Lemmas
