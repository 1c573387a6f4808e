-- How tokens are looked for: no public clause cites this.
-- Where the next byte stands.
pub mod Spots
