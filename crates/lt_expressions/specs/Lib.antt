-- The definitions, in the order in which they are read.
pub mod Codes
pub mod Layout
pub mod Parts
