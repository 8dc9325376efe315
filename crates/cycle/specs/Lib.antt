-- To be believed:
pub mod Cycle
pub mod Planned
pub mod Limits
pub mod Exactly
pub mod Silent
-- How answers stand in types:
pub mod Answers
pub mod Numbered
-- Theorems:
pub mod PlannedLaws
pub mod LimitLaws
pub mod Theorem
pub mod SilentLaws
-- Laws:
pub mod OrderLaws
pub mod LoopLaws
pub mod Pending
pub mod Listing
pub mod ReadLaws
pub mod PhaseLaws
pub mod ExactlyLaws
