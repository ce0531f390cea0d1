pub mod IndexLemmas
pub mod FittingLemmas
pub mod BaseLemmas
