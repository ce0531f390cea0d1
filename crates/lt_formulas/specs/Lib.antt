pub mod Shapes
pub mod Redexes
