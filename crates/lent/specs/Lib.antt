-- The layout of the bytes that a caller from C lends.
-- To be believed:
pub mod Words
pub mod Numbers
pub mod State
pub mod Entries
pub mod DraftBytes
pub mod TimerBytes
pub mod HeaterBytes
pub mod Records
-- Laws:
pub mod WordLaws
pub mod WordsBack
pub mod NumberLaws
pub mod StateLaws
pub mod StateBack
pub mod EntryLaws
pub mod DraftByteLaws
pub mod DraftBytesBack
pub mod TimerByteLaws
pub mod TimerBytesBack
pub mod HeaterByteLaws
pub mod HeaterBytesBack
pub mod RecordLaws
