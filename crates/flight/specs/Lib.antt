-- The flight of an accepted table.
-- To be believed:
pub mod Calls
pub mod Timing
pub mod Overruns
pub mod Flight
-- Theorems:
-- of the public calls' answers:
pub mod Joined
pub mod Theorem
pub mod Counted
-- Laws:
pub mod Same
pub mod Rows
pub mod Serving
pub mod OnTime
-- runs and places, for crates above:
pub mod Runs
