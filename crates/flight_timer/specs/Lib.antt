-- The registers of the bus timer over lists of calls.
-- To be believed:
pub mod Calls
-- the registers after every list:
pub mod Told
-- the timing guarantee:
pub mod InTime
-- Theorems:
pub mod ToldLaws
pub mod InTimeLaws
-- Laws:
pub mod SinceLaws
pub mod StepLaws
pub mod SumLaws
