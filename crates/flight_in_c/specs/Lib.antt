-- The flight through C.
-- To be believed:
pub mod CallsInC
-- Theorems:
pub mod InC
