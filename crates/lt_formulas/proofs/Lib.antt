pub mod Letters
pub mod Hypotheses
pub mod FunctionParts
pub mod TypedTerms
