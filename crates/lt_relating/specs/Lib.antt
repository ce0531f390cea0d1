-- The definitions, in the order in which they are read.
pub mod TypedRelations
pub mod RelatorLaws
pub mod RelatedSteps
pub mod Parts
pub mod Plans
pub mod Rows
pub mod Triples
pub mod Pairs
pub mod Expansions
pub mod Walks
