-- How ports are rated one by one: no public clause cites this.
-- What is known of the ports so far.
pub mod Rating
