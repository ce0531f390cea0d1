pub mod TableLemmas
pub mod PlaceLemmas
pub mod RegisteringLemmas
pub mod HoldingLemmas
pub mod FormLemmas
