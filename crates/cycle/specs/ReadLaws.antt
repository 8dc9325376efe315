-- The laws by which the cycle of a request that was read is found: each way out is one case of the definition.
use Rattle.std.specs.Prelude.{ℕ, ◌≤◌, ◌<◌, ◌≡◌, refl, Bool, true, false, cond, List, length, take, ltb, Option, Some, None, Result, Ok, Err, IfOk}
use Rattle.std.proofs.Common.{sym, ◌∙◌, arith, lt-ltb, le-ltb, ltb-false}
use Rattle.std.proofs.Math.Path.{ap}
use Rattle.std.proofs.lemmas.Option.{same_Some}
use Rattle.cursor.specs.PaddedLaws.{take_padded}
use Rattle.cursor.specs.ParsedLaws.{never}
use Rattle.refusal.specs.declared.Refusal.{Refusal}
use Rattle.request.specs.Request.{Reading, readable, unreadable, reading, no_task, no_pair}
use Rattle.request.specs.Answers as request
use Rattle.request.specs.Numbered as read
use Rattle.request.specs.Readable.{KeptReading}
use Rattle.request.specs.ReadableLaws.{reading_kept, unread_pos}
use Rattle.request.specs.SectionLaws.{no_zero}
use Rattle.request.specs.declared.Task.{Task}
use Rattle.request.specs.declared.Pair.{Pair}
use Rattle.request.specs.declared.Request.{Request}
use Rattle.cycle.specs.Cycle.{Cycle, hyperperiod, all_jobs, planned, cycle, limited, after_reading, cycle_of}
use Rattle.cycle.specs.PlannedLaws.{planned_length}
use Rattle.cycle.specs.LimitLaws.{hyperperiod_pos, hyperperiod_divides, readable_periodic}
use Rattle.cycle.specs.Answers.{short_cycle, Sized, Listable, AsRead, reading_of, cycle_for, cycle_after, listed, cycle_answered}
use Rattle.cycle.specs.Numbered.{refused_cycle, cycle_said, cycle_numbered}
use Rattle.cycle.specs.declared.Job.{Job}
use Rattle.cycle.specs.declared.Cycle as answer

-- a reading is found again in the places that hold it
module _ {r : Request} (tasks : List Task) (pairs : List Pair) (g : ℕ) (is : read.request_said (Ok r) ≡ request.request_answered (readable tasks pairs g)) where
  first_tasks : take r.n r.tasks ≡ tasks
  first_tasks = ap (λ (y : read.Request). take y.n y.tasks) is ∙ take_padded 16 no_task tasks

  pub reading_back : reading_of r ≡ readable tasks pairs g
  unfolding reading_of
  reading_back =
      let pair : take r.m r.pairs ≡ pairs = ap (λ (y : read.Request). take y.m y.pairs) is ∙ take_padded 16 no_pair pairs in
      let silent : r.g ≡ g = ap (λ (y : read.Request). y.g) is in
      rw (first_tasks, pair, silent)

-- every request that `request::read` answers is as it was read, and its cycle is that of the bytes
module _ (s : List ℕ) {r : Request} (e : read.request_said (Ok r) ≡ request.request_answered (reading s)) where
  pub bytes_as_read : AsRead r
  bytes_as_read = go (reading s) e (reading_kept s)
    where
      go : (x : Reading) → read.request_said (Ok r) ≡ request.request_answered x → KeptReading x → AsRead r
      go (readable tasks pairs g) is kept = record { tasks = tasks; pairs = pairs; g = g; is = is; kept = kept }
      go (unreadable number) is kept = absurd (omega (arith, unread_pos kept, ap (λ (y : read.Request). y.refusal) is))

  pub bytes_cycle : cycle_for r ≡ cycle_of s
  unfolding cycle_for cycle_of
  bytes_cycle = ap after_reading (go (reading s) e (reading_kept s))
    where
      go : (x : Reading) → read.request_said (Ok r) ≡ request.request_answered x → KeptReading x → reading_of r ≡ x
      go (readable tasks pairs g) is kept = reading_back tasks pairs g is
      go (unreadable number) is kept = absurd (omega (arith, unread_pos kept, ap (λ (y : read.Request). y.refusal) is))

-- bytes that are no request are refused with its number
pub not_read : (s : List ℕ) (e : Refusal) → read.request_said (Err e) ≡ request.request_answered (reading s) → cycle_said (Err e) ≡ cycle_numbered (cycle_of s)
unfolding cycle_of
not_read s e is = go (reading s) is
  where
    go : (x : Reading) → read.request_said (Err e) ≡ request.request_answered x → cycle_said (Err e) ≡ cycle_numbered (after_reading x)
    go (readable tasks pairs g) q = absurd (no_zero e (ap (λ (y : read.Request). y.refusal) q))
    go (unreadable number) q = ap refused_cycle (ap (λ (y : read.Request). y.refusal) q)

-- every answer of `request::read` is so, and its cycle is that of the bytes
module _ (s : List ℕ) where
  pub answer_as_read : (r : Result Request Refusal) → read.request_said r ≡ request.request_answered (reading s) → IfOk r AsRead
  answer_as_read (Ok r) e = bytes_as_read s e
  answer_as_read (Err x) e = tt

  pub answer_cycle : (r : Result Request Refusal) → read.request_said r ≡ request.request_answered (reading s) → cycle_numbered (cycle_after r) ≡ cycle_numbered (cycle_of s)
  answer_cycle (Ok r) e = ap cycle_numbered (bytes_cycle s e)
  answer_cycle (Err x) e = not_read s x e

-- a cycle that is answered stands in its places
pub said_answered : {c : answer.Cycle} (d : Cycle) → cycle_said (Ok c) ≡ cycle_numbered d → c ≡ cycle_answered d
said_answered d e = λ q. record {
  n = (e q).n;
  tasks = (e q).tasks;
  m = (e q).m;
  pairs = (e q).pairs;
  g = (e q).g;
  h = (e q).h;
  count = (e q).count;
  jobs = (e q).jobs;
}

-- the reading of such a request
pub as_read_is : {r : Request} (a : AsRead r) → reading_of r ≡ readable a.tasks a.pairs a.g
as_read_is a = reading_back a.tasks a.pairs a.g a.is

pub as_read_cycle : {r : Request} (a : AsRead r) → cycle_for r ≡ after_reading (readable a.tasks a.pairs a.g)
unfolding cycle_for
as_read_cycle a = ap after_reading (as_read_is a)

module _ {r : Request} (as_read : AsRead r) where
  abbrev tasks : List Task
  tasks = as_read.tasks

  -- the tasks in its places
  named : take r.n r.tasks ≡ tasks
  named = first_tasks tasks as_read.pairs as_read.g as_read.is

  pub sized : Sized (take r.n r.tasks)
  sized = let kept = as_read.kept in rw named (record { some = kept.some_task; few = kept.few_tasks; kept = kept.task })

  cycle_is : cycle_for r ≡ limited tasks as_read.pairs as_read.g (hyperperiod tasks)
  cycle_is = as_read_cycle as_read

  -- 7
  pub too_long : short_cycle (take r.n r.tasks) ≡ None → refused_cycle 7 ≡ cycle_numbered (cycle_for r)
  unfolding short_cycle
  too_long none = go (ltb 10000 (hyperperiod tasks)) refl (rw named at none)
    where
      go : (t : Bool) → ltb 10000 (hyperperiod tasks) ≡ t → cond {A = Option ℕ} t None (Some (hyperperiod tasks)) ≡ None → refused_cycle 7 ≡ cycle_numbered (cycle_for r)
      go true q w = rw (cycle_is, q) refl
      go false q w = absurd (never (cc))

  module _ {h : ℕ} (h_is : short_cycle (take r.n r.tasks) ≡ Some h) {count : ℕ} (count_is : count ≡ length (all_jobs (take r.n r.tasks) h)) where
    short : (h ≡ hyperperiod tasks) × (hyperperiod tasks ≤ 10000)
    unfolding short_cycle
    short = go (ltb 10000 (hyperperiod tasks)) refl (rw named at h_is)
      where
        go : (t : Bool) → ltb 10000 (hyperperiod tasks) ≡ t → cond {A = Option ℕ} t None (Some (hyperperiod tasks)) ≡ Some h → (h ≡ hyperperiod tasks) × (hyperperiod tasks ≤ 10000)
        go true q w = absurd (never (cc))
        go false q w = (sym (same_Some _ _ w), ltb-false 10000 (hyperperiod tasks) q)

    h_all : h ≡ hyperperiod tasks
    h_all = short.0

    few : hyperperiod tasks ≤ 10000
    few = short.1

    counted : count ≡ length (all_jobs tasks (hyperperiod tasks))
    counted = count_is ∙ rw (named, h_all)

    -- 8
    pub too_many : 128 < count → refused_cycle 8 ≡ cycle_numbered (cycle_for r)
    too_many more = rw (cycle_is, le-ltb 10000 (hyperperiod tasks) few, lt-ltb 128 (length (all_jobs tasks (hyperperiod tasks))) (rw counted at more)) refl

    pub listable : count ≤ 128 → Listable (take r.n r.tasks) h count
    listable l =
        let pos = hyperperiod_pos tasks (readable_periodic tasks as_read.pairs as_read.kept) in
        record {
          sized = sized;
          pos = omega (arith, h_all, pos);
          short = omega (arith, h_all, few);
          divides = rw (named, h_all) (hyperperiod_divides tasks);
          counted = count_is;
          few = l;
        }

    -- the answer of these parts
    abbrev parts : List Job → answer.Cycle
    parts jobs = record { n = r.n; tasks = r.tasks; m = r.m; pairs = r.pairs; g = r.g; h = h; count = count; jobs = jobs }

    pub all_read : count ≤ 128 → {jobs : List Job} → jobs ≡ listed (planned (take r.n r.tasks) h) → cycle_said (Ok (parts jobs)) ≡ cycle_numbered (cycle_for r)
    all_read l {jobs} e =
        let in_order : jobs ≡ listed (planned tasks (hyperperiod tasks)) = e ∙ rw (named, h_all) in
        let total : count ≡ length (planned tasks (hyperperiod tasks)) = counted ∙ sym (planned_length tasks (hyperperiod tasks)) in
        let e = as_read.is in
        let same : cycle_said (Ok (parts jobs)) ≡ cycle_numbered (cycle tasks as_read.pairs as_read.g (hyperperiod tasks) (planned tasks (hyperperiod tasks))) = λ q. record {
          refusal = 0;
          n = (e q).n;
          tasks = (e q).tasks;
          m = (e q).m;
          pairs = (e q).pairs;
          g = (e q).g;
          h = h_all q;
          count = total q;
          jobs = in_order q;
        } in
        same ∙ sym (rw (cycle_is, le-ltb 10000 (hyperperiod tasks) few, le-ltb 128 (length (all_jobs tasks (hyperperiod tasks))) (rw counted at l)) refl)
