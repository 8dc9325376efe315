-- What is promised: each promise once, beside its sentence of the papers.
-- Theorems:
pub mod Claims
