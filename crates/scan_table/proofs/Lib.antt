-- What the proofs of several functions cite, and the laws of the scan table.
pub mod Testing
pub mod Checking
pub mod Tables
pub mod Writing
pub mod Refusals
pub mod TableLaws
