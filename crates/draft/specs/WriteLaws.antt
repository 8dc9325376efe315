-- A sound draft with no job lifted is a plan, of exactly its frame length and frames; so what writing hands out is the table of that plan.
use Rattle.std.specs.Prelude.{ℕ, suc, ◌<◌, ◌≡◌, refl, Bool, List, [], ◌∷◌, ◌⊎◌, get_or}
use Rattle.std.proofs.Common.{sym, subst, ◌∙◌, arith}
use Rattle.std.proofs.Math.Bool.{true, false}
use Rattle.std.proofs.Math.Logic.{inl, inr}
use Rattle.std.proofs.Math.ListN.{length}
use borrow.Author.Tests.{ne_eqb, eqb-false, not-true}
use Rattle.cursor.specs.PaddedLaws.{firsts_length, get_or_firsts}
use Rattle.cycle.specs.Cycle.{no_cycle, cycle_of}
use Rattle.model.specs.Plan.{Instance, IsPlan}
use Rattle.model.specs.Answers.{instance}
use Rattle.model.specs.Within.{Within}
use Rattle.model.specs.WithinLaws.{within_or_not}
use Rattle.model.specs.Described.{plan_table}
use Rattle.plan_rules.specs.EveryLaws.{every_says}
use Rattle.plan_rules.specs.RulesSay.{RulesKept}
use Rattle.plan_writer.specs.Outcome.{handed, refusal}
use Rattle.draft.specs.Draft.{lifted, is_down, placed_of, frames_held, placed_part, placed_frames, row_count, sound_draft, none_lifted, write_in, write}
use Rattle.draft.specs.MoveLaws.{tests}
use Rattle.draft.specs.declared.Draft.{Draft}

-- where no job is lifted, all are placed
placed_all : {A : Type 0} (ks : List ℕ) (xs : List A) → length ks ≡ length xs → ((y : ℕ) → y < length ks → get_or ks y 0 ≡ lifted → ⊥) → placed_of ks xs ≡ xs
unfolding placed_of
placed_all [] [] same down = refl
placed_all [] (x ∷ xs) same down = absurd (omega arith)
placed_all (k ∷ ks) [] same down = absurd (omega arith)
placed_all (k ∷ ks) (x ∷ xs) same down =
    let rest = placed_all ks xs (omega arith) (λ y h. down (suc y) (omega arith)) in
    rw (ne_eqb k lifted (down 0 (omega arith)), rest)

module _ (x : Instance) (d : Draft) (none : none_lifted x d ≡ true) (sound : sound_draft x d ≡ true) where
  sizes : length (frames_held x d) ≡ length x.jobs
  sizes = firsts_length 0 d.frames (length x.jobs)

  down : (y : ℕ) → y < length (frames_held x d) → get_or (frames_held x d) y 0 ≡ lifted → ⊥
  unfolding none_lifted is_down
  down y h e =
      let low : y < length x.jobs = omega (arith, sizes) in
      eqb-false _ _ (not-true _ (every_says (is_down d.frames) (length x.jobs) none y low)) (sym (get_or_firsts 0 d.frames (length x.jobs) y low) ∙ e)

  whole : placed_part x d ≡ x
  whole = let all = placed_all (frames_held x d) x.jobs sizes down in λ i. instance x.tasks x.pairs x.g x.h (all i)

  pub draft_is_plan : IsPlan x d.f (frames_held x d)
  draft_is_plan =
      let t = tests x d sound in
      let frames = placed_all (frames_held x d) (frames_held x d) refl down in
      let rules : RulesKept x (row_count x d) d.f (frames_held x d)
      = subst (λ (ks : List ℕ). RulesKept x (row_count x d) d.f ks) frames (subst (λ (z : Instance). RulesKept z (row_count x d) d.f (placed_frames x d)) whole t.rules) in
      record {
        divides = t.can.divides;
        few_rows = t.can.few_rows;
        all = sizes;
        window = rules.window;
        capacity = rules.capacity;
        order = rules.order;
      }

-- what is handed out: the table of a plan of the request
pub record PlanWritten (request : List ℕ) (d : Draft) : Type 0 where
  pub x : Instance
  pub within : Within request x
  pub is_plan : IsPlan x d.f (frames_held x d)
  pub table_is : write request d ≡ handed (plan_table x d.f (frames_held x d))

module _ (request : List ℕ) (d : Draft) where
  -- that, or a refusal
  abbrev pub WriteComes : Type 0
  WriteComes = PlanWritten request d ⊎ ((number : ℕ) × (write request d ≡ refusal number))

  pub write_comes_to : WriteComes
  unfolding write write_in
  write_comes_to = go (within_or_not request)
    where
      tested : (x : Instance) → Within request x → (a b : Bool) → none_lifted x d ≡ a → sound_draft x d ≡ b → WriteComes
      tested x w true true none sound = inl (record {
        x = x;
        within = w;
        is_plan = draft_is_plan x d none sound;
        table_is = rw (w, none, sound);
      })
      tested x w true false none sound = inr (26, rw (w, none, sound))
      tested x w false b none sound = inr (26, rw (w, none))

      go : ((x : Instance) × Within request x) ⊎ ((number : ℕ) × (cycle_of request ≡ no_cycle number)) → WriteComes
      go (inl (x, w)) = tested x w (none_lifted x d) (sound_draft x d) refl refl
      go (inr (number, e)) = inr (number, rw e)
