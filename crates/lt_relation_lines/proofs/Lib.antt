pub mod EqualityLemmas
pub mod SideLemmas
pub mod NormalLemmas
