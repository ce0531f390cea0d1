pub mod Sequents
pub mod Lines
pub mod State
pub mod Growing
pub mod Reaching
pub mod Derived
