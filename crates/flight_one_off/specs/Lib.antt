-- The one-off transfer in flight.
-- To be believed:
pub mod Sent
-- Theorems:
pub mod SentLaws
