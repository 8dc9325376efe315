-- The heater link.
-- To be believed:
-- the two ends and one call:
pub mod Machine
pub mod Exchange
-- the answer as the paper numbers it:
pub mod Numbered
-- what is claimed of every list of calls, and which number, exactly:
pub mod Law
pub mod Exactly
pub mod Calls
-- Theorems:
pub mod Theorem
pub mod ExactlyLaws
-- Laws:
-- the law of the two ends, over what arrives:
pub mod MachineLaws
pub mod LawLaws
pub mod StepLaws
pub mod PairLaws
pub mod OrderLaws
