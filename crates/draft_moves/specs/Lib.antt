-- What the four calls on drafts answer, exactly; and what holds after every list of moves.
-- To be believed:
pub mod Exactly
pub mod Moves
-- Theorems:
pub mod SumsAre
pub mod ExactLaws
pub mod WrittenLaws
pub mod StartLaws
pub mod MoveTheorem
-- Laws:
pub mod StepLaws
pub mod Decided
pub mod Ways
