mod CheckCases
mod CheckLoops
pub mod PlanLoops
pub mod ToldSteps
pub mod CheckLaws
pub mod Promise
pub mod CallLaws
