pub mod Notes
pub mod Places
pub mod Sinks
pub mod Making
pub mod Views
