mod Blanks
mod Deciding
pub mod Lemmas
mod NamesApart
mod OnlyMarks
mod Places
mod Sends
mod Symbols
