pub mod ReadableNames
pub mod Values
pub mod KeepingValues
pub mod ReadingBack
