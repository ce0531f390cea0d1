pub mod LayoutLemmas
pub mod Rows
pub mod PartLemmas
