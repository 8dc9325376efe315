-- The earliest frame with time for a one-off transfer, and that the answer is right.
-- To be believed:
pub mod OneOff
pub mod Exactly
-- How answers stand in types:
pub mod Numbered
pub mod Answers
-- Theorems:
pub mod ExactlyLaws
-- Laws:
pub mod StepLaws
