mod Answered
mod BeforeJobs
mod Descendants
mod Digits
mod FreeLoops
mod Gathering
mod Marks
mod RelativeMarks
mod ReleasedLoop
mod SequenceLoops
mod Slices
mod TakeOne
mod Totals
pub mod WorkLaws
pub mod Promise
mod ColumnLoop
