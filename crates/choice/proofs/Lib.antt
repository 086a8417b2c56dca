pub mod Tests
pub mod RefusalLaws
