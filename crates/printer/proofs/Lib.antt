-- What the proofs of several functions cite, and the laws of the texts.
pub mod Adding
pub mod Lengths
pub mod Events
pub mod Longest
pub mod Printing
pub mod Files
pub mod Telling
pub mod Example
