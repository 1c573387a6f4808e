pub mod Lemmas
mod Bounded
mod Counts
mod Feeds
mod Limits
mod Outs
mod TraceCounts
