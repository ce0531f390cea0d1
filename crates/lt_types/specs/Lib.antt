pub mod Codes
pub mod Equality
pub mod FunctionTypes
pub mod Layout
pub mod Maps
pub mod Matching
pub mod TypeVariables
