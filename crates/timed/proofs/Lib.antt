mod TimedKeys
mod TimedLoops
pub mod PlannedOrder
pub mod TimedSteps
pub mod TimedLaws
pub mod CallLaws
pub mod Promise
