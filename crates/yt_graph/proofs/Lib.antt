mod AstPictures
mod Examples
mod Heads
pub mod Lemmas
mod Lengths
mod Pictures
mod Wrapping
mod Within
