pub mod Interleaving
pub mod Turns
pub mod Progress
