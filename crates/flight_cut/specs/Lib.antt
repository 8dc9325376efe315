-- The pieces of a cut transfer in flight.
-- To be believed:
pub mod Pieces
-- Theorems:
pub mod Theorem
-- Laws:
-- the old request is within the limits:
pub mod SameCycle
