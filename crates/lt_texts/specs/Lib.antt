-- The definitions, in the order in which they are read: from characters to tokens, to lexemes, to
-- items, to the walk.
pub mod Tokens
pub mod Spelling
pub mod Gaps
pub mod Texts
pub mod Slices
pub mod Lexemes
pub mod Reading
pub mod Commands
pub mod Writing
pub mod Pieces
pub mod Forms
pub mod Named
pub mod WrongPlaces
pub mod CommandPlaces
pub mod PlainTexts
pub mod Walks
pub mod Files
