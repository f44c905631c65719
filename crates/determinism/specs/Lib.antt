pub mod Interleaving
pub mod Jobs
pub mod Setup
pub mod Runs
pub mod Deadlines
