-- What the proofs of several functions cite, and the laws of the pieces of written forms.
pub mod Steps
pub mod Putting
pub mod Writing
pub mod Outcomes
pub mod FormLaws
pub mod Rooms
pub mod Following
