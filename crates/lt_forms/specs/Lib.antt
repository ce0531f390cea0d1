pub mod Shapes
pub mod Constructors
pub mod Quantifiers
pub mod Told
