pub mod Lemmas
mod Chains
mod Lists
mod PassedOn
mod Rated
mod Examples
mod GraphTasks
