-- The heater link in flight.
-- To be believed:
pub mod Flown
-- Theorems:
pub mod FlownLaws
