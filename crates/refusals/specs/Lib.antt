pub mod Refusals
pub mod Zeros
pub mod Steps
pub mod TurnRun
