pub mod Answered
pub mod Lemmas
pub mod LineLemmas
pub mod ShownTasks
