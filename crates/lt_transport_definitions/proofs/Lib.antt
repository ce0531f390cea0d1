-- Lemmas on the sessions of the examples.
pub mod SampleLemmas
pub mod Reached
