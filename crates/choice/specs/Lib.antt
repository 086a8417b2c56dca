pub mod Tests
pub mod Refusals
