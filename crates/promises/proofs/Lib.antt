pub mod Running
pub mod Accepted
pub mod Outputs
pub mod Working
pub mod Stretches
pub mod Actions
pub mod Finishing
pub mod Promise
