-- What the worked rows are computed with, and the rows.
pub mod Computing
pub mod Beginnings
pub mod LawCommands
pub mod BaseCommands
pub mod Correspondences
pub mod Integers
pub mod Lists
