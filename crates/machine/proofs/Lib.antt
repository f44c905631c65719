mod ValuesLoop
mod JobLoop
mod SampleLoop
mod HeldLoops
pub mod Locality
