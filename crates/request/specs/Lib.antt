-- To be believed:
pub mod Request
pub mod Numbered
pub mod Encode
pub mod Readable
pub mod Exactly
pub mod Written
-- How answers stand in types:
pub mod Answers
-- Theorems:
pub mod ReadableLaws
pub mod EncodeLaws
pub mod Theorem
-- Laws:
pub mod ExactlyLaws
pub mod StepLaws
pub mod SilentLaws
pub mod ReadingLaws
pub mod SectionLaws
pub mod AnswerLaws
pub mod WriteLaws
pub mod FileLaws
pub mod Places
