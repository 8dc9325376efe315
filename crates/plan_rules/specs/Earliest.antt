-- The earliest frame of each job of a task, by the job's number: a job of another task may stand in frame k exactly if k is at most that.
use Prim.Native.Nat.{ℕ, ◌+◌, ◌≤◌, ◌<◌, min}
use Rattle.std.specs.Prelude.{◌≡◌, refl, Bool, false, ◌&&◌, List, length, get_or, set, replicate, leb, eqb}
use Rattle.std.proofs.Math.Path.{sym}
use Rattle.std.proofs.Common.{ap, ◌∙◌, arith, get_or-set_same, get_or-set_other, le-leb, leb-true, leb-false, eq-eqb, ne_eqb, eqb-true}
use Rattle.std.proofs.Math.Bool.{true}
use Rattle.std.proofs.Math.ListN.{length-set}
use Rattle.std.proofs.lemmas.List.{length-replicate, get_or-replicate}
use Rattle.std.proofs.lemmas.Bool.{lt-leb, eqb-false}
use Rattle.cycle.specs.Planned.{no_job}
use Rattle.cycle.specs.declared.Job.{Job}
use Rattle.model.specs.Named.{is_job}
use Rattle.plan_rules.specs.Every.{every}
use Rattle.plan_rules.specs.EveryLaws.{both_all, every_snoc}
use Rattle.plan_rules.specs.Rules.{other_kept, one_kept}

-- of the first n jobs, with their frames
pub record Earliest (jobs : List Job) (frames : List ℕ) (b n : ℕ) (earliest : List ℕ) : Type 0 where
  pub size : length earliest ≡ 256
  pub tells : (number k : ℕ) → number < 256 → k ≤ 65535 → leb k (get_or earliest number 0) ≡ every n (other_kept jobs frames b number k)

leb_min : (k a b : ℕ) → leb k (min a b) ≡ leb k a && leb k b
leb_min k a b = go (leb k a) refl (leb k b) refl
  where
    go : (s : Bool) → leb k a ≡ s → (t : Bool) → leb k b ≡ t → leb k (min a b) ≡ s && t
    go true p true q = le-leb k (min a b) (omega (arith, leb-true k a p, leb-true k b q))
    go true p false q = lt-leb k (min a b) (omega (arith, leb-false k b q))
    go false p t q = lt-leb k (min a b) (omega (arith, leb-false k a p))

module _ (jobs : List Job) (frames : List ℕ) (b : ℕ) where
  pub earliest_none : Earliest jobs frames b 0 (replicate 256 65535)
  earliest_none = record {
    size = length-replicate {A = ℕ} 256 65535;
    tells = λ number k few small. rw (get_or-replicate {A = ℕ} 256 number 65535 0 few) (le-leb k 65535 small);
  }

  module _ (z : ℕ) (earliest : List ℕ) (so : Earliest jobs frames b z earliest) where
    more : (number k : ℕ) → every (z + 1) (other_kept jobs frames b number k) ≡ every z (other_kept jobs frames b number k) && other_kept jobs frames b number k z
    more number k = every_snoc (other_kept jobs frames b number k) z

    pub other_task : ((get_or jobs z no_job).task ≡ b → ⊥) → Earliest jobs frames b (z + 1) earliest
    unfolding other_kept is_job
    other_task ne = record {
      size = so.size;
      tells = λ number k few small. so.tells number k few small ∙ sym (more number k ∙ rw (other number k) (both_all (every z (other_kept jobs frames b number k))));
    }
      where
        other : (number k : ℕ) → other_kept jobs frames b number k z ≡ true
        other number k = rw (ne_eqb (get_or jobs z no_job).task b ne)

    pub own_task : (get_or jobs z no_job).task ≡ b → (get_or jobs z no_job).number < 256
        → (v : ℕ) → v ≡ min (get_or earliest (get_or jobs z no_job).number 0) (get_or frames z 0) → Earliest jobs frames b (z + 1) (set earliest (get_or jobs z no_job).number v)
    unfolding other_kept is_job
    own_task e fits v is = record {
      size = simp length-set so.size;
      tells = λ number k few small. sym (more number k ∙ rw (← so.tells number k few small) (go number k (eqb own number) refl));
    }
      where
        own : ℕ
        own = (get_or jobs z no_job).number

        go : (number k : ℕ) (t : Bool) → eqb own number ≡ t
            → leb k (get_or earliest number 0) && other_kept jobs frames b number k z ≡ leb k (get_or (set earliest own v) number 0)
        go number k true q =
            let same : own ≡ number = eqb-true own number q in
            let stored : get_or (set earliest own v) number 0 ≡ v = rw (← same) (get_or-set_same earliest own v 0 (omega (arith, so.size))) in
            rw (eq-eqb (get_or jobs z no_job).task b e, q, stored, is, same) (sym (leb_min k (get_or earliest number 0) (get_or frames z 0)))
        go number k false q =
            let kept = get_or-set_other earliest own number v 0 (λ w. eqb-false own number q (sym w)) in
            rw (eq-eqb (get_or jobs z no_job).task b e, q, kept) (both_all (leb k (get_or earliest number 0)))

-- one job more, the one at place z with its frame k
module _ (jobs : List Job) (frames : List ℕ) (b z : ℕ) (earliest : List ℕ) (so : Earliest jobs frames b z earliest) (job : Job) (job_is : job ≡ get_or jobs z no_job)
    (more : ℕ) (more_is : more ≡ z + 1) where
  pub passed_other : (job.task ≡ b → ⊥) → Earliest jobs frames b more earliest
  passed_other ne = rw more_is (other_task jobs frames b z earliest so (rw (← job_is) ne))

  pub passed_own : job.task ≡ b → job.number < 256 → (number : ℕ) → number ≡ job.number → (k : ℕ) → k ≡ get_or frames z 0
      → (v : ℕ) → v ≡ min (get_or earliest number 0) k → Earliest jobs frames b more (set earliest number v)
  passed_own e few number number_is k k_is v is =
      let same : number ≡ (get_or jobs z no_job).number = number_is ∙ ap (λ (j : Job). j.number) job_is in
      rw (more_is, same)
      (own_task jobs frames b z earliest so (rw (← job_is) e) (rw (← job_is) few) v
      (is ∙ rw (same, k_is)))

-- whether the job at place y keeps the pair a, b: it is another task's, or its frame is not behind the earliest of its partner
module _ (jobs : List Job) (frames : List ℕ) (n a b y : ℕ) (job : Job) (job_is : job ≡ get_or jobs y no_job) where
  pub not_of_the_pair : (job.task ≡ a → ⊥) → one_kept jobs frames n a b y ≡ true
  unfolding one_kept
  not_of_the_pair ne = rw (← job_is, ne_eqb job.task a ne)

  module _ (e : job.task ≡ a) (few : job.number < 256) (k : ℕ) (k_is : k ≡ get_or frames y 0) (small : k ≤ 65535) (earliest : List ℕ)
      (so : Earliest jobs frames b n earliest) where
    judged : one_kept jobs frames n a b y ≡ leb k (get_or earliest job.number 0)
    unfolding one_kept
    judged = rw (← job_is, ← k_is, eq-eqb job.task a e) (sym (so.tells job.number k few small))

    pub early_enough : k ≤ get_or earliest job.number 0 → one_kept jobs frames n a b y ≡ true
    early_enough h = judged ∙ le-leb _ _ h

    pub too_late : get_or earliest job.number 0 < k → one_kept jobs frames n a b y ≡ false
    too_late h = judged ∙ lt-leb _ _ h
