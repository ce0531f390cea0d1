pub mod Conversions
pub mod Machines
pub mod Everywhere
pub mod Walks
pub mod Places
pub mod Settling
pub mod Unfolding
