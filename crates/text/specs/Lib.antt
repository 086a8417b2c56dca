pub mod Words
pub mod Digits
