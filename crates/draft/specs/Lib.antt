-- Moving a job by hand.
-- To be believed:
pub mod Numbered
pub mod Draft
pub mod Kept
-- How answers stand in types:
pub mod Answers
-- Theorems:
pub mod SoundLaws
-- Laws:
pub mod PlacedLaws
pub mod SumLaws
pub mod LoadLaws
pub mod LentLaws
pub mod StepLaws
pub mod MoveLaws
pub mod WriteLaws
pub mod SizeLaws
