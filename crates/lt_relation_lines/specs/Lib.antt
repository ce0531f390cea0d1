-- The definitions, in the order in which they are read.
pub mod Grounds
pub mod Equalities
pub mod SideLines
pub mod Equated
pub mod NormalLines
pub mod DomainLines
pub mod SampleLines
