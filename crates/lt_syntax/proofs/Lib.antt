pub mod Ascii
pub mod TypePieces
pub mod TermPieces
pub mod OpenBinders
pub mod ItemHeads
pub mod Constants
pub mod LineTexts
