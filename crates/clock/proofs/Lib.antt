-- The laws of the clock rule.
pub mod Age
