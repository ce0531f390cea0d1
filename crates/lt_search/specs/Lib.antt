-- What a search answers, expressions that own their arguments, equations between them, and what a walk over prefixes finds.
pub mod ExpressionView
pub mod Solving
pub mod Told
pub mod Walks
