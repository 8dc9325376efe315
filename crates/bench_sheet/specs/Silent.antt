-- The silent ticks at work: a second table beside the bench sheet, from the bytes of each request.
use Rattle.std.specs.Prelude.{ℕ, List, [], ◌∷◌, ◌++◌}
use Rattle.request.specs.Encode.{request_bytes}
use Rattle.request.specs.declared.Task.{Task}
use Rattle.plan_writer.specs.Outcome.{Outcome, handed, refusal}
use Rattle.bench_sheet.specs.Sheet.{Line, task, ◌·◌, with_rows, P1, p1_table, p1_printed, P3}

-- a request file, and what planning it comes to
pub record SilentLine : Type 0 where
  pub bytes : List ℕ
  pub comes_to : Outcome

abbrev ◌comes◌ : List ℕ → Outcome → SilentLine
◌comes◌ bytes o = record { bytes = bytes; comes_to = o }

-- the request of a line of the sheet, with g silent ticks
abbrev with_silent : ℕ → Line → List ℕ
with_silent g p = request_bytes p.tasks p.pairs g

-- three transfers that fill a row of 20, and no longer do if the line is silent after each
abbrev settling : List Task
settling = task 8 40 40 0 ∷ task 8 40 40 0 ∷ task 4 20 20 0 ∷ []

abbrev together : Outcome
together = with_rows 20 40 ((◌·◌ 0 0 ∷ ◌·◌ 1 0 ∷ ◌·◌ 2 0 ∷ []) ∷ (◌·◌ 2 1 ∷ []) ∷ [])

abbrev apart : Outcome
apart = with_rows 20 40 ((◌·◌ 0 0 ∷ ◌·◌ 2 0 ∷ []) ∷ (◌·◌ 1 0 ∷ ◌·◌ 2 1 ∷ []) ∷ [])

abbrev pub silent_sheet : List SilentLine
silent_sheet =
    -- a row of 20 in frames of 20 no longer holds
    (◌comes◌ (with_silent 1 P1) (refusal 10)) ∷
    -- in frames of 4 a transfer of 4 has no silent tick left
    (◌comes◌ (with_silent 1 P3) (refusal 9)) ∷
    (◌comes◌ (request_bytes settling [] 0) together) ∷
    (◌comes◌ (request_bytes settling [] 1) apart) ∷
    -- "0 with a count of 0", and g 0 with a count of 1
    (◌comes◌ (p1_printed ++ (0 ∷ [])) (handed p1_table)) ∷
    (◌comes◌ (p1_printed ++ (1 ∷ 0 ∷ [])) (handed p1_table)) ∷
    -- bytes end inside the section
    (◌comes◌ (p1_printed ++ (1 ∷ [])) (refusal 1)) ∷
    -- "17, after 5 and before 6, a count above 1 or a g above 15"
    (◌comes◌ (p1_printed ++ (2 ∷ [])) (refusal 17)) ∷
    (◌comes◌ (p1_printed ++ (2 ∷ 0 ∷ 0 ∷ 0 ∷ [])) (refusal 17)) ∷
    (◌comes◌ (p1_printed ++ (1 ∷ 16 ∷ 0 ∷ [])) (refusal 17)) ∷
    -- "Number 6 now applies behind this section."
    (◌comes◌ (p1_printed ++ (1 ∷ 15 ∷ 0 ∷ [])) (refusal 6)) ∷
    (◌comes◌ (p1_printed ++ (0 ∷ 0 ∷ [])) (refusal 6)) ∷
    []
