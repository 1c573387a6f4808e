mod Answered
pub mod Lemmas
mod Lexed
mod ResolvedCalls
mod StageLemmas
mod Texts
