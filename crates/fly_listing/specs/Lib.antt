-- To be believed:
pub mod Flown
-- How answers stand in types:
pub mod Answers
-- Theorems:
pub mod ShortLaws
-- Laws:
pub mod FlownLaws
