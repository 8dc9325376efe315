-- To be believed:
pub mod Gcd
pub mod Lcm
-- Theorems:
pub mod GcdLaws
pub mod LcmLaws
-- Laws:
pub mod Residue
