pub mod Timed
pub mod Opens
pub mod Examples
pub mod PlannedOrder
pub mod TimedTold
