-- What the laws say.
pub mod Axioms
