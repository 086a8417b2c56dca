-- What the proofs of several functions cite, and the laws of the shelf question.
pub mod Asking
pub mod ShelfLaws
