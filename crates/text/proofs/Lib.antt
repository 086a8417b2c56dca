-- What the proofs of several functions cite, and the laws of digits.
pub mod Putting
pub mod DigitLaws
pub mod Finding
