-- Lists of calls from C.
-- To be believed:
-- for every kind of calls
pub mod Runs
-- timer
pub mod TimerInC
-- heater
pub mod HeaterInC
-- draft
pub mod DraftInC
-- Theorems:
pub mod TimerInCLaws
pub mod HeaterInCLaws
pub mod DraftInCLaws
-- Laws:
pub mod RunLaws
