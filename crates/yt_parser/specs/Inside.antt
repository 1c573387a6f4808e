-- What the parser's own functions answer: no public clause cites these.
-- What the cursor keeps of the tokens.
pub mod Signs
-- An answer against what reading comes to.
pub mod Results
