-- The rules of a plan on the frames of its jobs, as tests, and what the tests say.
-- To be believed:
pub mod Every
pub mod Rules
-- Laws:
pub mod EveryLaws
pub mod Slices
pub mod RulesSay
pub mod Earliest
pub mod LoopLaws
pub mod RulesAre
