pub mod Premises
pub mod Equations
pub mod NodeTypes
pub mod Tabled
pub mod Sides
