pub mod Lemmas
mod HandlerValues
mod ReadableNames
mod ReadingBack
mod SerialValues
