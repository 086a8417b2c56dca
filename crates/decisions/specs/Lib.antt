pub mod Sending
pub mod Change
pub mod Refusals
pub mod Arms
