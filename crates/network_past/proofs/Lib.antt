pub mod Forms
pub mod Links
pub mod End
