-- What the machine's own functions need of one another: no public clause cites these.
-- What the parts of a step need and leave.
pub mod Needs
