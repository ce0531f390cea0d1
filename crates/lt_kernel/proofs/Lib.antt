pub mod LineNumbers
pub mod Outcomes
pub mod NamedIds
pub mod StateLemmas
pub mod GrowingLemmas
pub mod ReachingLemmas
pub mod DerivedLines
