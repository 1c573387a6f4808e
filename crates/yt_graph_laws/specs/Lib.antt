pub mod Blanks
pub mod Deciding
pub mod NamesApart
pub mod Places
pub mod Sends
pub mod Symbols
