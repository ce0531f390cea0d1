pub mod Steps
pub mod Nexts
pub mod Tables
pub mod Digits
