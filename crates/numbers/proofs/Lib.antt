-- What the proofs of several functions cite, and the laws of the coding.
pub mod Groups
pub mod Ends
pub mod Forms
pub mod Bits
pub mod Puts
pub mod Reading
pub mod CodingLaws
pub mod Writing
pub mod Following
