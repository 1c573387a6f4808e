pub mod Exprs
pub mod Graphs
pub mod Lexed
pub mod Loops
pub mod Parsed
pub mod Signs
pub mod Stmts
