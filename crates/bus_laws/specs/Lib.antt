-- What the bytes of the calls from C say, and which of them a call changes.
-- To be believed:
-- the bytes of a state, a draft, a timer and a heater, both ways
pub mod Trips
pub mod TimerRoundTrip
pub mod HeaterBack
-- which bytes of a state a call changes
pub mod Changed
-- the bytes of the tries, of the counts of phases and of the records of a timeline give them back
pub mod Tries
pub mod PhaseCounts
pub mod Records
-- bus_decide beside bus_plan, and what is handed out passes the check
pub mod Decides
-- Theorems:
pub mod RoundTrip
pub mod DraftTrip
pub mod TimerRoundTripLaws
pub mod HeaterBackLaws
pub mod ChangedLaws
pub mod TriesLaws
pub mod PhaseCountLaws
pub mod RecordLaws
pub mod DecideLaws
-- what answers from 0 on say
pub mod Answered
