-- The definitions, in the order in which they are read.
pub mod Programs
pub mod Openings
pub mod Connectives
pub mod Derivations
pub mod Extensionality
pub mod TypeLengths
pub mod TypedTerms
