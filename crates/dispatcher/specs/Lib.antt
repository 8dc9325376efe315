-- The dispatcher: next-frame and report.
-- To be believed:
pub mod Exactly
-- the answers as the paper numbers them:
pub mod Numbered
-- what is computed, which NextExact and ReportExact pin down:
pub mod Dispatch
-- Theorems:
pub mod NextTheorem
pub mod ReportTheorem
pub mod ReportLaws
-- Laws:
pub mod FrameLaws
pub mod StepLaws
