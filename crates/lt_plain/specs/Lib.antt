-- The definitions that the contracts cite.
pub mod Flattening
pub mod Telling
pub mod Stepping
pub mod Placing
pub mod Showing
