-- Rewriting a table.
-- To be believed:
pub mod Exactly
pub mod ReadBack
-- what is computed, which RewriteExact pins down:
pub mod Rewritten
-- Theorems:
pub mod Theorem
pub mod SameBytes
pub mod ReadBackLaws
-- Laws:
pub mod RewriteLaws
