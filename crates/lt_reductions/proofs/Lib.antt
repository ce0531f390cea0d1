pub mod Putting
pub mod Reducing
pub mod Placing
pub mod Shortness
pub mod NamedSteps
pub mod NamedLimits
