-- What a path leads to by one part alone: no public clause cites these.
pub mod OwnParts
