-- The definitions, in the order in which they are read.
pub mod Tables
pub mod Registering
pub mod Forms
pub mod Instances
