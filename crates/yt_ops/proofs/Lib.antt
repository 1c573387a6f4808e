mod Names
mod Growing
mod Codes
