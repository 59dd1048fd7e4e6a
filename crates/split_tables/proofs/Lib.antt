pub mod Items
pub mod Tables
pub mod Ends
pub mod Numbering
