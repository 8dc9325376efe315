-- What `timeline` prints.
-- To be believed:
pub mod Printed
-- How answers stand in types:
pub mod Answers
-- Theorems:
pub mod Theorem
pub mod ShortLaws
-- Laws:
pub mod PutLaws
pub mod PrintedLaws
