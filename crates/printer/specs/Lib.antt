pub mod Text
pub mod Printing
pub mod Telling
pub mod Sinks
pub mod Sinking
