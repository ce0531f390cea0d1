pub mod NodeEquality
pub mod SeparateLemmas
