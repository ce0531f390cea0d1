pub mod CallLemmas
pub mod Digits
pub mod WordTests
