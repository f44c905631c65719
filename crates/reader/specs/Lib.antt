pub mod Told
pub mod ProgramsTold
