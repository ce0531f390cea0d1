pub mod ClosedTerms
pub mod LooseTerms
pub mod Refusals
pub mod TypedefTests
pub mod NameSets
pub mod Fronts
pub mod LabelNames
pub mod Closing
