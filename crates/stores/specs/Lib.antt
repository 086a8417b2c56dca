pub mod Stores
pub mod Safety
pub mod Kills
