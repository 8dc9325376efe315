-- The silent ticks count as if every C were C + g: the costs and the frame rules are those of the lengthened request, and so is all that rests on them.
use Rattle.std.specs.Prelude.{◌≡◌, Bool, false, ◌&&◌, List, [], ◌∷◌, map, leb}
use Rattle.std.proofs.Math.Path.{refl, sym, ap}
use Rattle.std.proofs.Common.{subst, ◌∙◌, arith}
use Rattle.std.proofs.Math.Bool.{true}
use Prim.Native.Nat.{ℕ, zero, suc, ◌+◌, ◌/◌, ◌%◌, ◌<◌, ◌≤◌}
use Rattle.std.proofs.Math.ListN.{length}
use Rattle.std.proofs.Math.Seq.{ext_get_or}
use Rattle.std.proofs.Math.Dec.{ltb, eqb}
use Rattle.cursor.specs.PaddedLaws.{map_at}
use Rattle.request.specs.Request.{no_task}
use Rattle.request.specs.declared.Task.{Task}
use Rattle.search.specs.Placing.{row_sum}
use Rattle.model.specs.Plan.{Instance, task_at, job_at, rows_at, slot, costs, IsPlan}
use Rattle.model.specs.PlanLaws.{costs_length, cost_at_lem}
use Rattle.model.specs.Plausible.{phase_rule, common_rule, frame_rule, frame_rules, plausible_by, plausible}
use Rattle.model.specs.Chosen.{problem_at, is_tried_by, walk_lengths_by, choose_walk_by, ChoiceWalk, choose}
use Rattle.model.specs.Links.{links_of_job, all_links, link_counts, link_places}
use Rattle.model.specs.Good.{Good}
use Rattle.model.specs.GoodLaws.{job_facts}
use Rattle.model.specs.Silent.{longer, lengthened, SilentCounts}

rules_same : (g f : ℕ) (tasks : List Task) → frame_rules phase_rule g f tasks ≡ frame_rules phase_rule 0 f (map (longer g) tasks)
unfolding frame_rules frame_rule slot phase_rule common_rule
rules_same g f [] = refl
rules_same g f (task ∷ tasks) =
    let same : task.c + g ≡ task.c + g + 0 = omega arith in
    ap (λ (b : Bool). (leb (task.c + g) f && phase_rule f task) && b) (rules_same g f tasks)
    ∙ ap (λ (k : ℕ). (leb k f && phase_rule f task) && frame_rules phase_rule 0 f (map (longer g) tasks)) same

module _ (x : Instance) (good : Good x) where
  costs_same : costs x ≡ costs (lengthened x)
  unfolding slot
  costs_same =
      ext_get_or 0 (costs x) (costs (lengthened x)) (costs_length x ∙ sym (costs_length (lengthened x)))
      (λ y h.
      let there : y < length x.jobs = omega (arith, costs_length x) in
      let i : ℕ = (job_at x y).task in
      let raised : task_at (lengthened x) i ≡ longer x.g (task_at x i) = map_at (longer x.g) no_task no_task x.tasks i (job_facts x good y there).known in
      omega (arith, cost_at_lem x y there, cost_at_lem (lengthened x) y there, ap (λ (a : Task). a.c) raised))

  plausible_same : (f : ℕ) → plausible x f ≡ plausible (lengthened x) f
  unfolding plausible_by
  plausible_same f = ap (λ (b : Bool). ltb 0 f && (eqb (x.h % f) 0 && (leb (rows_at x f) 256 && b))) (rules_same x.g f x.tasks)

  plan_there : (f : ℕ) (frames : List ℕ) → IsPlan x f frames → IsPlan (lengthened x) f frames
  plan_there f frames v = record {
    divides = v.divides;
    few_rows = v.few_rows;
    all = v.all;
    window = v.window;
    capacity = λ r h. subst (λ (cs : List ℕ). row_sum (rows_at x f) cs frames r ≤ f) costs_same (v.capacity r h);
    order = v.order;
  }

  plan_here : (f : ℕ) (frames : List ℕ) → IsPlan (lengthened x) f frames → IsPlan x f frames
  plan_here f frames v = record {
    divides = v.divides;
    few_rows = v.few_rows;
    all = v.all;
    window = v.window;
    capacity = λ r h. subst (λ (cs : List ℕ). row_sum (rows_at x f) cs frames r ≤ f) (sym costs_same) (v.capacity r h);
    order = v.order;
  }

  problem_same : (f : ℕ) → problem_at x f ≡ problem_at (lengthened x) f
  unfolding problem_at link_counts link_places all_links links_of_job
  problem_same f = rw costs_same

  tried_same : (rows : ℕ) → is_tried_by phase_rule x rows ≡ is_tried_by phase_rule (lengthened x) rows
  unfolding is_tried_by
  tried_same rows = ap (λ (b : Bool). eqb (x.h % rows) 0 && b) (plausible_same (x.h / rows))

  walk_same : (n rows : ℕ) (some : Bool) → walk_lengths_by phase_rule x n rows some ≡ walk_lengths_by phase_rule (lengthened x) n rows some
  unfolding walk_lengths_by
  walk_same zero rows some = refl
  walk_same (suc n) rows some =
      rw (walk_same n (rows + 1) some, walk_same n (rows + 1) true, problem_same (x.h / rows), tried_same rows)

  choice_same : choose x ≡ choose (lengthened x)
  unfolding choose_walk_by
  choice_same = ap (λ (w : ChoiceWalk). w.choice) (walk_same 256 1 false)

  -- THE THEOREM: the silent ticks are the C + g of capacity and of f ≥ C, and nothing else
  pub silent_counts : SilentCounts x
  silent_counts = record {
    plausible_are = plausible_same;
    plans_are = λ f frames. (plan_there f frames, plan_here f frames);
    chosen_are = choice_same;
  }
