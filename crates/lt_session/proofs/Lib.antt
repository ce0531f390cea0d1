-- What the prover doesn't find alone.
pub mod Takings
pub mod Registerings
pub mod Correspondences
pub mod Totals
pub mod OnTheWay
pub mod Steppings
pub mod Showings
pub mod Fronts
pub mod WrittenItems
pub mod Runnings
pub mod TableWalks
pub mod OneOutcome
