-- What planning hands out reads back: from the plan that the bytes describe, and the check that accepts it.
use Rattle.std.specs.Prelude.{ℕ, ◌≡◌, List}
use Rattle.std.proofs.Common.{ap}
use Rattle.cycle.specs.Cycle.{cycle_of}
use Rattle.cycle.specs.Answers.{cycle_answered}
use Rattle.table.specs.Table.{decode}
use Rattle.table.specs.TableBytesLaws.{says_decodes}
use Rattle.model.specs.Described.{Accepted}
use Rattle.planner.specs.Outcome.{searched_answer}
use Rattle.planner.specs.HandedBytes.{handed_bytes}
use Rattle.planner.specs.HandedBytesLaws.{handed_chosen}
use Rattle.checker.specs.Checked as checker
use Rattle.checker.specs.Accepts.{accepts_described}
use Rattle.checker.specs.Answers.{read_answer}
use Rattle.rewriter.specs.SameBytes.{own_bytes}
use Rattle.rewriter.specs.ReadBack.{ReadsBack}

-- THE THEOREM: so it is wherever `planner::plan` answers no number.
pub planned_reads_back : (allowance : ℕ) (request out : List ℕ) → (searched_answer allowance request out).refusal ≡ 0 → ReadsBack request (handed_bytes allowance request out)
planned_reads_back allowance request out e =
    let c = handed_chosen allowance request out e in
    let h = c.handed in
    let bytes = handed_bytes allowance request out in
    let says = says_decodes bytes h.t c.says in
    let verdict : checker.checked (cycle_of request) (decode bytes) ≡ checker.accepted h.f h.frames =
    (accepts_described request bytes c.x h.t c.within says h.f h.frames).1 (h.is_chosen.is_plan, h.describes) in
    let accepted : Accepted c.x h.t = record { f = h.f; frames = h.frames; is_plan = h.is_chosen.is_plan; describes = h.describes } in
    record {
      x = c.x;
      within = c.within;
      f = h.f;
      frames = h.frames;
      is_chosen = h.is_chosen;
      passes = ap checker.verdict_number verdict;
      reads = ap (read_answer (cycle_answered (cycle_of request))) verdict;
      writes = own_bytes request c.x c.within bytes h.t says accepted c.says.bytes_are;
    }
