-- Joining two requests.
-- To be believed:
pub mod Exactly
-- what is computed, which JoinExact pins down:
pub mod Joined
-- Theorems:
pub mod Theorem
-- Laws:
pub mod JoinLaws
pub mod Places
pub mod Valid
