pub mod Walks
pub mod PlainWalks
pub mod RefusalTexts
pub mod Outputs
pub mod Calls
