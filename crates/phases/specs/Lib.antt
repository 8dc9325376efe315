-- Which phases still fit.
-- To be believed:
pub mod Exactly
-- what is computed, which PhasesExact pins down, but for with_phase, which PhaseSet does, and how_many, which HowManyMeans does:
pub mod Phases
-- How answers stand in types:
pub mod Numbered
pub mod Counting
-- Theorems:
pub mod Theorem
-- Laws:
-- of the counts, of the bytes with a phase, of the cycle with a phase, of a request that was read, and the ways out:
pub mod HowMany
pub mod PhaseBytes
pub mod PhasePlaces
pub mod PhaseCycle
pub mod ReadPhase
pub mod Ways
