pub mod Lemmas
mod DearestLemmas
mod IntervalLemmas
mod LoadLemmas
mod MultipleLemmas
mod StreamLemmas
mod TournamentLemmas
mod WalkLemmas
