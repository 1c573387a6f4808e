pub mod SentLemmas
