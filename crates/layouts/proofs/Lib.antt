-- What the proofs of several functions cite, and the laws of the layouts.
pub mod Words
pub mod Wide
pub mod Parts
pub mod Places
pub mod LayoutLaws
pub mod Passing
