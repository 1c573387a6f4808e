-- What is printed where a pattern is too long.
pub mod Texts
-- Why a verdict on a replay comes, and its text.
pub mod Causes
