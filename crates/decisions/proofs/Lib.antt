pub mod Items
pub mod Sendable
pub mod Deciding
