pub mod AxiomWalks
