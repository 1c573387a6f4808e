pub mod Places
pub mod First
pub mod Lexes
-- How tokens are looked for.
pub mod Inside
