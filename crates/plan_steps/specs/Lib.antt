pub mod Totals
pub mod PlanLine
pub mod Reading
pub mod State
pub mod Steps
