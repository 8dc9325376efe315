-- The calls from C.
-- To be believed:
pub mod Reply
-- requests
pub mod Join
pub mod Cut
pub mod Phases
-- tables
pub mod Plan
pub mod Decide
pub mod Check
pub mod Rewrite
pub mod OneOff
-- timeline
pub mod Timeline
-- dispatch
pub mod Dispatch
-- drafts
pub mod Drafts
-- registers
pub mod Timer
-- heater
pub mod Heater
-- Laws:
pub mod CutLaws
pub mod DecideLaws
pub mod JoinLaws
pub mod CheckLaws
pub mod OneOffLaws
pub mod PhaseLaws
pub mod RewriteLaws
pub mod PlanLaws
pub mod ReplyLaws
pub mod TimelineLaws
pub mod DispatchLaws
pub mod DraftLaws
pub mod TimerLaws
pub mod HeaterLaws
