-- Laws of the run through the rows, one for each way through its code: what is left to run answers for the whole, and, once the next row has
-- begun, for that row. All rows of one run have the same flags. Assumes nothing.
use mathlib.Core.Path.{◌≡◌, refl, sym, ap, subst, ◌∙◌}
use mathlib.Core.Bool.{Bool, true, false, not, false≢true}
use Rattle.std.specs.Option.{IfSome, is_some}
use Rattle.std.specs.Prelude.{Option, None, Some}
use mathlib.Core.Logic.{⊎_elim}
use mathlib.Core.List.{List, ◌++◌}
use Prim.Native.Nat.{ℕ, zero, suc, ◌+◌, ◌-◌, ◌≤◌, ◌<◌}
use native.Mathlib.Nat.{eq-or-lt_of_le}
use native.Mathlib.Omega.{arith}
use lib.ListN.{length, get_or, set, replicate, length-set, length-replicate}
use lib.Seq.{set-set, set-get_or}
use Rattle.searcher.specs.Arrays.{jobs_in}
use Rattle.searcher.specs.declared.Problem.{Problem as InArrays}
use Rattle.sweep.specs.declared.Swept.{Swept}
use Rattle.exact.specs.Sweep.{Rules, any_below, more, skips, leaves, From, Rest, Ordered, Fewer}
use Rattle.exact.specs.WitnessLaws.{ordered_first, ordered_put, from_fewer}
use Rattle.exact.specs.SweepLaws.{Putting, row_begun, rest_full, rest_next, rest_skip, rest_stuck, rest_left}
use Rattle.exact.specs.Words.{word, word_at}
use Rattle.sweep.specs.Memo.{Knows, Noted, sound_first, sound_noted}
use Rattle.sweep.specs.Arrays.{rules_in, Next, Due, added_at, taken_at, Going, Failed, NotPut}
use Rattle.sweep.proofs.LateLaws.{due_has, due_taken, due_restored}

-- the rules' numbers
module _ (g : InArrays) (s : Swept) where
  pub n_is : (rules_in g s).n ≡ jobs_in g
  unfolding rules_in
  n_is = refl

  pub f_is : (rules_in g s).f ≡ g.f
  unfolding rules_in
  f_is = refl

-- the loop, at row `row` and job `job`, with this space left in the row
pub record Running (u : Rules) (rows p i room : ℕ) (ps : List Bool) (due : List ℕ) (low high : ℕ) (kept : Bool)
    (ps' : List Bool) (due' marks' words' : List ℕ) (row job space : ℕ) : Type 0 where
  pub going : Going u rows ps' due' marks' words' low high kept
  pub same : ps' ≡ ps
  pub same_due : due' ≡ due
  pub begun : p ≤ row
  pub inside : row < rows
  pub jobs : job ≤ u.n
  pub whole : Rest u rows row job ps space → Rest u rows p i ps room
  pub next : p < row → Rest u rows row job ps space → From u rows (p + 1) ps

pub run_start : {u : Rules} {rows p i : ℕ} (room : ℕ) {ps : List Bool} {due marks words : List ℕ} {low high : ℕ} {kept : Bool}
    → Going u rows ps due marks words low high kept → p < rows → i ≤ u.n
    → Running u rows p i room ps due low high kept ps due marks words p i room
run_start room g h l = record {
  going = g;
  same = refl;
  same_due = refl;
  begun = omega arith;
  inside = h;
  jobs = l;
  whole = λ e. e;
  next = λ t e. absurd (omega arith);
}

-- the row is at its end
module _ {u : Rules} {rows p i room : ℕ} {ps : List Bool} {due : List ℕ} {low high : ℕ} {kept : Bool} {ps' : List Bool} {due' marks' words' : List ℕ}
    {row space : ℕ} (v : Running u rows p i room ps due low high kept ps' due' marks' words' row u.n space) where
  pub run_full : {n : ℕ} → u.n ≡ n → any_below (more u row ps' space) n ≡ true → Failed u rows p i room ps due row ps' due' marks' words'
  run_full {n} is e =
      let f : Rest u rows row u.n ps space = rest_full u rows row ps u.n space (omega arith) (rw (v.same, ← is) at e) in
      record { fails = v.whole f; next = λ t. v.next t f; same = v.same; same_due = v.same_due; memory = v.going.memory }

  -- where the next row fails, so does all
  module _ (f : From u rows (row + 1) ps) where
    before : Rest u rows row u.n ps space
    before = rest_next u rows row ps u.n space (omega arith) f

    next_fails : From u rows (p + 1) ps
    next_fails = ⊎_elim (λ e. rw e f) (λ t. v.next t before) (eq-or-lt_of_le v.begun)

  pub run_late : From u rows (row + 1) ps' → Failed u rows p i room ps due (row + 1) ps' due' marks' words'
  run_late e =
      let f : From u rows (row + 1) ps = subst (λ (qs : List Bool). From u rows (row + 1) qs) v.same e in
      record { fails = v.whole (before f); next = λ t. next_fails f; same = v.same; same_due = v.same_due; memory = v.going.memory }

  pub run_known : Knows (marks' ++ words') (row + 1) low high → Failed u rows p i room ps due (row + 1) ps' due' marks' words'
  run_known k =
      let g = v.going in
      run_late (g.memory.sound.fails (row + 1) ps' g.flags (rw (g.lows, g.highs) at k))

  pub run_row : row + 1 < rows → {f : ℕ} → f ≡ u.f → {kept' : Bool} → (kept' ≡ true → Ordered u ps')
      → Running u rows p i room ps due low high kept' ps' due' marks' words' (row + 1) 0 f
  run_row h {f} e o = record {
    going =
        let g = v.going in
        record { flags = g.flags; lows = g.lows; highs = g.highs; order = o; times = g.times; memory = g.memory };
    same = v.same;
    same_due = v.same_due;
    begun = omega (arith, v.begun);
    inside = h;
    jobs = omega arith;
    whole = λ r. v.whole (before (begins r));
    next = λ t r. next_fails (begins r);
  }
    where
      begins : Rest u rows (row + 1) 0 ps f → From u rows (row + 1) ps
      begins r = row_begun u rows (row + 1) ps h (rw e at r)

-- a job is left in the row
module _ {u : Rules} {rows p i room : ℕ} {ps : List Bool} {due : List ℕ} {low high : ℕ} {kept : Bool} {ps' : List Bool} {due' marks' words' : List ℕ}
    {row job space : ℕ} (v : Running u rows p i room ps due low high kept ps' due' marks' words' row job space) (more : job < u.n) where
  pub run_skip : skips u row ps' job ≡ true → Running u rows p i room ps due low high kept ps' due' marks' words' row (job + 1) space
  run_skip e =
      let back : Rest u rows row (job + 1) ps space → Rest u rows row job ps space = rest_skip u rows row ps job space more (rw v.same at e) in
      record {
        going = v.going;
        same = v.same;
        same_due = v.same_due;
        begun = v.begun;
        inside = v.inside;
        jobs = omega arith;
        whole = λ r. v.whole (back r);
        next = λ t r. v.next t (back r);
      }

  -- the job was not put
  module _ (e : skips u row ps' job ≡ false) {ps'' : List Bool} {due'' marks'' words'' : List ℕ} (d : NotPut u rows row job space ps' due' ps'' due'' marks'' words'') where
    not_skipped : skips u row ps job ≡ false
    not_skipped = rw v.same at e

    not_put : Putting u rows row job ps space
    not_put = rw v.same at d.fails

    same_flags : ps'' ≡ ps
    same_flags = d.same ∙ v.same

    goes_on : Going u rows ps'' due'' marks'' words'' low high kept
    goes_on =
        let g = v.going in
        rw (d.same, d.same_due) (record { flags = g.flags; lows = g.lows; highs = g.highs; order = g.order; times = g.times; memory = d.memory })

    pub run_stuck : leaves u row ps'' job ≡ false → Failed u rows p i room ps due row ps'' due'' marks'' words''
    run_stuck l =
        let f : Rest u rows row job ps space = rest_stuck u rows row ps job space more not_skipped not_put (rw same_flags at l) in
        record { fails = v.whole f; next = λ t. v.next t f; same = same_flags; same_due = d.same_due ∙ v.same_due; memory = d.memory }

    pub run_left : Running u rows p i room ps due low high kept ps'' due'' marks'' words'' row (job + 1) space
    run_left = record {
      going = goes_on;
      same = same_flags;
      same_due = d.same_due ∙ v.same_due;
      begun = v.begun;
      inside = v.inside;
      jobs = omega arith;
      whole = λ r. v.whole (rest_left u rows row ps job space more not_skipped not_put r);
      next = λ t r. v.next t (rest_left u rows row ps job space more not_skipped not_put r);
    }

-- the jobs up to the next one are passed over
module _ {u : Rules} {rows p i room : ℕ} {ps : List Bool} {due : List ℕ} {low high : ℕ} {kept : Bool} {ps' : List Bool} {due' marks' words' : List ℕ}
    {row job space : ℕ} (v : Running u rows p i room ps due low high kept ps' due' marks' words' row job space) where
  run_passed : (k : ℕ) → job + k ≤ u.n → ((y : ℕ) → job ≤ y → y < job + k → skips u row ps' y ≡ true)
      → Running u rows p i room ps due low high kept ps' due' marks' words' row (job + k) space
  run_passed zero le all =
      let e : job ≡ job + 0 = omega arith in
      subst (λ (j : ℕ). Running u rows p i room ps due low high kept ps' due' marks' words' row j space) e v
  run_passed (suc k) le all =
      let e : job + k + 1 ≡ job + suc k = omega arith in
      subst (λ (j : ℕ). Running u rows p i room ps due low high kept ps' due' marks' words' row j space) e
      (run_skip (run_passed k (omega arith) (λ y a b. all y a (omega arith))) (omega arith) (all (job + k) (omega arith) (omega arith)))

  pub run_next : {n j : ℕ} → u.n ≡ n → Next u row ps' job n j → Running u rows p i room ps due low high kept ps' due' marks' words' row j space
  run_next {n} {j} is next =
      let most : j ≤ u.n = next.most u.n v.jobs (omega arith) in
      let e : job + (j - job) ≡ j = omega (arith, next.begun) in
      subst (λ (k : ℕ). Running u rows p i room ps due low high kept ps' due' marks' words' row k space) e
      (run_passed (j - job) (omega arith) (λ y a b. next.passed y a (omega arith)))

  -- no job of the row is left
  pub run_end : {n j : ℕ} → u.n ≡ n → Next u row ps' job n j → n ≤ j
      → Running u rows p i room ps due low high kept ps' due' marks' words' row u.n space
  run_end is next h =
      let at = run_next is next in
      subst (λ (k : ℕ). Running u rows p i room ps due low high kept ps' due' marks' words' row k space) (omega (arith, at.jobs)) at

-- job i has no row; c is its cost, and `end` one past its last row
pub record Chosen (u : Rules) (ps : List Bool) (i end c : ℕ) : Type 0 where
  pub job : i < u.n
  pub few : u.n ≤ 128
  pub unset : get_or ps i false ≡ false
  pub sided : u.sided i ≡ true
  pub end_is : end ≡ u.end i
  pub cost_is : c ≡ u.cost i

-- one job is put
module _ {u : Rules} {rows : ℕ} (p i room : ℕ) {ps : List Bool} {due marks words : List ℕ} {low high : ℕ} {kept : Bool}
    (g : Going u rows ps due marks words low high kept) where
  module _ {end c : ℕ} (x : Chosen u ps i end c) where
    in_flags : i < length ps
    in_flags = omega (arith, g.flags, x.job, x.few)

    less_due : Due u (set ps i true) u.n (taken_at due end c)
    less_due = due_taken g.times x.job in_flags x.unset x.sided x.end_is x.cost_is

    pub time_there : end ≤ 256 → c ≤ get_or due end 0
    time_there = due_has g.times x.job in_flags x.unset x.sided x.end_is x.cost_is

    pub time_room : {due' : List ℕ} → due' ≡ taken_at due end c → c ≤ 65535 → get_or due' end 0 + c ≤ 4294967295
    time_room e f = omega (arith, ap (λ (l : List ℕ). get_or l end 0) e, less_due.small end, x.few)

    pub put_ordered : {kept' : Bool} → (kept' ≡ true → (kept ≡ true) × (u.free ps i ≡ true)) → kept' ≡ true → Ordered u (set ps i true)
    put_ordered k e = ordered_put (g.order (k e).0) i in_flags x.job (k e).1

    pub put_going : {low' high' : ℕ} {kept' : Bool} → low' ≡ word_at (set ps i true) 0 → high' ≡ word_at (set ps i true) 64
        → (kept' ≡ true → (kept ≡ true) × (u.free ps i ≡ true)) → {due' : List ℕ} → due' ≡ taken_at due end c
        → Going u rows (set ps i true) due' marks words low' high' kept'
    put_going l h k d = record {
      flags = length-set ps i true ∙ g.flags;
      lows = l;
      highs = h;
      order = put_ordered k;
      times = rw d less_due;
      memory = g.memory;
    }

    module _ {due₁ : List ℕ} (taken : due₁ ≡ taken_at due end c) {e : ℕ} {ps' : List Bool} {due' marks' words' : List ℕ}
        (d : Failed u rows p (i + 1) (room - c) (set ps i true) due₁ e ps' due' marks' words') {due'' : List ℕ} (added : due'' ≡ added_at due' end c) where
      put_fails : Putting u rows p i ps room
      put_fails t = rw x.cost_is at d.fails

      restored : set ps' i false ≡ ps
      restored =
          ap (λ (l : List Bool). set l i false) d.same ∙ set-set ps i true false
          ∙ ap (λ (b : Bool). set ps i b) (sym x.unset) ∙ set-get_or ps i false

      times_restored : due'' ≡ due
      times_restored =
          added ∙ ap (λ (l : List ℕ). added_at l end c) (d.same_due ∙ taken) ∙ due_restored due end c time_there g.times.size

      pub put_failed : NotPut u rows p i room ps due (set ps' i false) due'' marks' words'
      put_failed = record { fails = put_fails; same = restored; same_due = times_restored; memory = d.memory }

      -- the state of the next row was begun, the order is kept there, and it is noted
      pub put_noted : {marks'' words'' : List ℕ} {low' high' : ℕ} → low' ≡ word_at (set ps i true) 0 → high' ≡ word_at (set ps i true) 64 → p < e → Ordered u ps'
          → Noted (marks' ++ words') (marks'' ++ words'') (p + 1) low' high' → length marks'' ≡ 5120 → length words'' ≡ 10240
          → NotPut u rows p i room ps due (set ps' i false) due'' marks'' words''
      put_noted {marks''} {words''} l h t all w m n = record {
        fails = put_fails;
        same = restored;
        same_due = times_restored;
        memory = record {
          marks_size = m;
          words_size = n;
          sound = sound_noted (set ps i true) (length-set ps i true ∙ g.flags) d.memory.sound (rw (l, h) at w) fewer;
        };
      }
        where
          size : u.n ≤ length (set ps i true)
          size = omega (arith, length-set ps i true, g.flags, x.few)

          fewer : (qs : List Bool) → Fewer qs (set ps i true) → From u rows (p + 1) qs
          fewer qs f = from_fewer u rows (p + 1) (set ps i true) qs (omega arith) size (d.next t) (rw d.same at all) f

pub times_for : {u : Rules} {rows : ℕ} {ps : List Bool} {due marks words : List ℕ} {low high : ℕ} {kept : Bool} → Going u rows ps due marks words low high kept
    → {n : ℕ} → u.n ≡ n → Due u ps n due
times_for {u} {ps = ps} {due = due} g e = subst (λ (k : ℕ). Due u ps k due) e g.times

-- the whole sweep
pub going_first : (u : Rules) (rows : ℕ) {n : ℕ} → u.n ≡ n → {due words : List ℕ} → Due u (replicate 128 false) n due → length words ≡ 10240
    → Going u rows (replicate 128 false) due (replicate 5120 0) words 0 0 true
unfolding word
going_first u rows e {due} {words} d n = record {
  flags = length-replicate 128 false;
  lows = refl;
  highs = refl;
  order = λ e. ordered_first u 128;
  times = subst (λ (k : ℕ). Due u (replicate 128 false) k due) (sym e) d;
  memory = record { marks_size = length-replicate {A = ℕ} 5120 0; words_size = n; sound = sound_first u rows words };
}

-- what the answer says
pub failed_at : {u : Rules} {rows p i room : ℕ} {ps : List Bool} {due : List ℕ} {r : Option ℕ} {e : ℕ} {ps' : List Bool} {due' marks' words' : List ℕ}
    → r ≡ Some e → IfSome r (λ e. Failed u rows p i room ps due e ps' due' marks' words') → Failed u rows p i room ps due e ps' due' marks' words'
failed_at is h = rw is at h

pub some_of : (r : Option ℕ) {none : Bool} → is_some r ≡ not none → none ≡ false → (e : ℕ) × (r ≡ Some e)
some_of None n e = absurd (false≢true (n ∙ ap not e))
some_of (Some k) n e = (k, refl)

pub swept_false : {u : Rules} {rows : ℕ} → 0 < rows → {room e : ℕ} {due : List ℕ} {ps' : List Bool} {due' marks' words' : List ℕ} → room ≡ u.f
    → Failed u rows 0 0 room (replicate 128 false) due e ps' due' marks' words' → From u rows 0 (replicate 128 false)
swept_false {u} {rows} h e d = row_begun u rows 0 (replicate 128 false) h (rw e at d.fails)
