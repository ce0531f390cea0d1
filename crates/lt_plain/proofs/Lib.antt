pub mod Tellings
pub mod Steppings
pub mod Showings
pub mod ReadLexemes
pub mod ScopedItems
pub mod AlikeTexts
pub mod AlikeValid
pub mod ReadableItems
