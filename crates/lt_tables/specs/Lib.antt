-- The definitions, in the order in which they are read.
pub mod Letters
pub mod Stacks
pub mod Views
pub mod Rules
