-- What the proofs of several calls cite, and that the records which the server keeps stay within their ranges.
pub mod Kept
pub mod Unasked
pub mod Replying
pub mod Hearing
pub mod RecordsKept
pub mod Asking
