pub mod RefusalLaws
pub mod Calls
pub mod Promise
pub mod TurnRun
