-- To be believed:
pub mod Listing
-- How answers stand in types:
pub mod Answers
-- Theorems:
pub mod ShortLaws
-- Laws:
pub mod ListingLaws
pub mod HandedLaws
