-- The lemmas behind the laws, those that others cite first.
pub mod CharacterRuns
pub mod TokenEnds
pub mod TokenTexts
pub mod GapLemmas
pub mod NextTokens
pub mod OneReading
pub mod Readings
pub mod ReadingOrder
pub mod OneEnding
