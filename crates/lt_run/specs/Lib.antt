-- The definitions that the contracts cite.
pub mod Joining
pub mod Places
pub mod Walked
pub mod Endings
pub mod Runs
pub mod Outcomes
pub mod Reports
