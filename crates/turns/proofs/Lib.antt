mod OrderLoops
mod TurnJudge
mod FrameMarks
mod Stepping
mod OneTurn
mod Parts
mod FrameLoop
mod FramesLoop
pub mod Promise
