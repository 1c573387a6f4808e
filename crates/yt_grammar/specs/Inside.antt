-- How the front of a list of tokens is read: the contracts of the parser's own functions cite it, and no public clause does.
-- The readers of expressions, statements and parts of a graph.
pub mod Reading
-- Some of them by a name of their own.
pub mod Parts
