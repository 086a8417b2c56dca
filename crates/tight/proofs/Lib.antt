pub mod One
pub mod Texts
pub mod Rejected
pub mod Learning
pub mod Moments
pub mod Called
