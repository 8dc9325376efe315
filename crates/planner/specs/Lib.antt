-- To be believed:
pub mod Outcome
pub mod Handed
pub mod HandedBytes
-- How answers stand in types:
pub mod Numbered
pub mod Choices
-- Theorems:
pub mod HandedLaws
pub mod CapacityLaws
pub mod Moved
-- Laws:
pub mod HandedBytesLaws
pub mod LengthLaws
pub mod TriedLaws
pub mod ChoiceLaws
pub mod PlanLaws
pub mod TableLaws
