mod Arriving
mod Falling
mod InTime
pub mod Lemmas
mod ListsOfSegments
mod LogsEnding
mod Replaced
mod Telling
