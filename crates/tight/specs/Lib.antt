pub mod Rejected
pub mod Learning
pub mod Moments
