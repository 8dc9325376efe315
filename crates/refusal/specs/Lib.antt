-- To be believed:
pub mod Refusal
-- Laws:
pub mod RefusalLaws
