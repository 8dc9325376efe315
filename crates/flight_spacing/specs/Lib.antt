-- Spacing of sensor readings: 02, R-8.
-- To be believed:
pub mod Spacing
-- neither bound can be better: computed flights
pub mod Reached
-- Theorems:
-- what 'successive' comes to, proved:
pub mod SuccessiveLaws
pub mod SpacingLaws
pub mod WhileLaws
pub mod ReachedLaws
-- of the public calls' answers:
pub mod Joined
