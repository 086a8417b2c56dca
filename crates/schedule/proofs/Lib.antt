-- What the proofs of several functions cite, and the laws of the schedule.
pub mod Sixes
pub mod Parts
pub mod Valid
pub mod Answers
pub mod ScheduleLaws
pub mod Following
