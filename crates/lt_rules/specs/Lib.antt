-- The definitions, in the order in which they are read.
pub mod Told
pub mod RuleIndexes
pub mod Registering
pub mod Fitting
