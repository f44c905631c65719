pub mod Listing
pub mod Opens
pub mod Examples
pub mod Printed
pub mod DecimalLaws
pub mod TextLaws
pub mod CallLaws
