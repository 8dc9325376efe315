-- The rules of a plan, the chosen plan, and that it is the first of all plans.
-- To be believed:
pub mod Plan
pub mod Slots
pub mod Plausible
pub mod Window
pub mod Named
pub mod Links
pub mod Chosen
pub mod MayStand
pub mod Silent
pub mod Described
pub mod Within
-- How answers stand in types:
pub mod Answers
-- Theorems:
pub mod WithinLaws
pub mod PhaseExact
pub mod PlausibleLaws
pub mod MayStandLaws
pub mod SilentLaws
pub mod ChosenLaws
-- Laws:
pub mod Good
pub mod WindowLaws
pub mod GoodLaws
pub mod NamedLaws
pub mod AnswerLaws
pub mod ChosenTries
pub mod Phase
pub mod Disjoint
pub mod PlanLaws
pub mod RuleLaws
pub mod RowLaws
pub mod LinksLaws
pub mod ProblemLaws
pub mod Places
pub mod DescribedLaws
pub mod PlanTable
pub mod LayoutPlan
