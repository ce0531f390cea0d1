pub mod Applied
pub mod Building
pub mod FreeNodes
pub mod ItemTests
pub mod LooseNames
pub mod Refusing
pub mod Testing
