-- To be believed:
pub mod Choice
pub mod Range
pub mod Parsed
pub mod Fields
pub mod Padded
pub mod Written
-- Laws:
pub mod WordBytesLaws
pub mod ArrayLaws
pub mod ChoiceLaws
pub mod RangeLaws
pub mod ParsedLaws
pub mod FieldLaws
pub mod FrontLaws
pub mod PaddedLaws
pub mod OwnBytes
pub mod Widths
pub mod RecordLaws
pub mod Parts
pub mod Pieces
pub mod WrittenLaws
