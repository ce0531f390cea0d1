pub mod Signs
pub mod TypeText
pub mod TermText
pub mod Depths
pub mod ItemText
pub mod SequentText
