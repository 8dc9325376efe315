-- The frame rules of some tasks are the rule of each.
use Rattle.std.specs.Prelude.{◌≡◌, refl, ◌&&◌, List, [], ◌∷◌, ℕ, Bool}
use Rattle.std.specs.List.{list_all}
use Rattle.std.proofs.Common.{ap}
use Rattle.request.specs.declared.Task.{Task}
use Rattle.model.specs.Plausible.{frame_rule, frame_rules}

pub rules_each : (rule : ℕ → Task → Bool) (g f : ℕ) (tasks : List Task) → list_all (frame_rule rule g f) tasks ≡ frame_rules rule g f tasks
unfolding frame_rules
rules_each rule g f [] = refl
rules_each rule g f (task ∷ tasks) = ap (λ (b : Bool). frame_rule rule g f task && b) (rules_each rule g f tasks)
