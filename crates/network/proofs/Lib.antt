mod Multiples
mod FrameLoops
mod RowSteps
mod PairMarks
mod AnyRange
