pub mod Lemmas
mod Worked
mod WorkedText
mod Faithful
mod Pieces
mod PrintedLines
mod PrintedNames
mod ReadBack
mod ReadBackSegments
