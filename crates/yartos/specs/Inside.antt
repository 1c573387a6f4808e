-- How words and files are read: no public clause cites these.
-- The command and the request that the code finds.
pub mod Found
-- The file that is too long.
pub mod LongFiles
