-- What the check answers, and that it accepts exactly the tables that describe a plan.
-- To be believed:
pub mod Checked
pub mod Exactly
pub mod Moved
-- How answers stand in types:
pub mod Numbered
pub mod Answers
-- Theorems:
pub mod ExactlyLaws
pub mod MovedLaws
pub mod Accepts
-- Laws:
pub mod PositionLaws
pub mod WalkLaws
pub mod LoopLaws
pub mod ReadLaws
pub mod Verdicts
