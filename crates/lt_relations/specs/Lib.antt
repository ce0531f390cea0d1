-- The definitions, in the order in which they are read.
pub mod Told
pub mod Tables
pub mod Places
pub mod Registries
pub mod Registering
pub mod Holdings
pub mod Reading
