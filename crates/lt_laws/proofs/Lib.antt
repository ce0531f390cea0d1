pub mod Agreeing
pub mod RegisteringLemmas
pub mod InstanceLemmas
