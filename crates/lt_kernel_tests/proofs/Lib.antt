pub mod TestTerms
