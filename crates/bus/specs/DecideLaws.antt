-- The length that bus_decide answers is small.
use Rattle.std.specs.Prelude.{ℕ, ◌<◌, List}
use Rattle.plan_writer.specs.Outcome.{outcome_answer}
use Rattle.planner.specs.Outcome.{outcome}
use Rattle.planner.specs.TableLaws.{outcome_good}
use Rattle.bus.specs.PlanLaws.{outcome_few}

pub decide_few : (request out : List ℕ) → (outcome_answer (outcome request) out).length < 65536
decide_few request out = outcome_few out (outcome request) (outcome_good request)
