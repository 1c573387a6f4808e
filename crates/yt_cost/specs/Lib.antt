pub mod CodeSizes
pub mod Code
pub mod CodeFit
pub mod CodeAlone
pub mod CodeVars
pub mod Codes
pub mod Faults
