pub mod Row
pub mod Words
pub mod Laws
