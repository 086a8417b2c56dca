pub mod Schedule
pub mod Steps
