pub mod Lexemes
pub mod Forms
pub mod Grammar
pub mod Writable
pub mod CanonicalText
pub mod SamePlaces
pub mod Inside
