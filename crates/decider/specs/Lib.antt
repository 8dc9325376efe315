-- To be believed:
pub mod Decided
-- Theorems:
pub mod DecidedLaws
-- Laws:
pub mod ChoiceLaws
pub mod DecideLaws
