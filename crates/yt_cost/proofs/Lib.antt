mod CodeFits
mod CodePlaces
mod CodeGoes
mod CodeLogs
mod CodeMeans
mod CodeShapes
mod CodeValid
mod CodeUses
mod CodeShort
mod CodeMade
mod CodeKeeps
mod CodesWithin
mod Compiled
mod CodeOwn
pub mod Lemmas
