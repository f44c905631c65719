pub mod Laid
pub mod Good
