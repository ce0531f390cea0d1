pub mod PartLemmas
pub mod PartPasses
pub mod RelationTypes
pub mod NameLists
pub mod SameTypes
pub mod StatementLemmas
pub mod TypeRoots
