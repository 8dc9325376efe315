-- Cutting a long transfer.
-- To be believed:
pub mod Exactly
-- what is computed, which CutExact pins down:
pub mod Cut
-- examples:
pub mod Example
-- Theorems:
pub mod Theorem
-- computed:
pub mod ExampleLaws
-- Laws:
pub mod Places
pub mod CutLaws
pub mod Valid
pub mod Alone
