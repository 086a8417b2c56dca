pub mod Bytes
pub mod Calls
pub mod Safety
pub mod Kills
