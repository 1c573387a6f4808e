pub mod Words
pub mod Reads
pub mod FileCauses
pub mod Causes
pub mod Answer
pub mod Laws
-- How words and files are read.
pub mod Inside
