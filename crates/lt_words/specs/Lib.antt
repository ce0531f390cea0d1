-- The definitions that the contracts cite.
pub mod Command
pub mod Numbers
pub mod Calls
