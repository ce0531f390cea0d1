pub mod PlaceLemmas
pub mod Makes
pub mod LemmaRows
pub mod ClosingLemmas
