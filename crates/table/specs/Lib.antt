-- To be believed:
pub mod Table
pub mod WellFormed
pub mod TableBytes
-- How answers stand in types:
pub mod Answers
-- Theorems:
pub mod TableBytesLaws
-- Laws:
pub mod Inverse
pub mod Layout
pub mod Promises
pub mod Left
pub mod EntryLaws
pub mod RisingLaws
pub mod AnswerLaws
pub mod ReadLaws
pub mod LengthLaws
pub mod ChainLaws
pub mod WriteLaws
pub mod RowsLeft
