-- What stands behind the laws, in the order in which it is read. Nobody has to believe it.
pub mod Nameless
pub mod NamelessRules
pub mod AlphaEqualLines
pub mod Booleans
