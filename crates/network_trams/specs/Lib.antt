pub mod Trams
pub mod Stages
pub mod Claims
