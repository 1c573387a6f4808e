pub mod Lemmas
mod Answered
mod Traces
mod Values
mod VarLines
