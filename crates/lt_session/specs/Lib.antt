-- The definitions that the contracts cite.
pub mod Sessions
pub mod Taking
pub mod Walks
pub mod Stepping
pub mod Counts
pub mod Running
