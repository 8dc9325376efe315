-- The timeline of an accepted table.
-- To be believed:
pub mod Timeline
pub mod Exactly
-- How answers stand in types:
pub mod Numbered
pub mod Known
-- Theorems:
pub mod Theorem
-- Laws:
pub mod KnownLaws
pub mod FillLaws
pub mod BusyLaws
