-- The lists of a cut are what the records say of them, place by place.
use Rattle.std.specs.Prelude.{ℕ, zero, suc, ◌+◌, ◌-◌, ◌≤◌, ◌<◌, ◌≡◌, refl, List, [], ◌∷◌, length, get_or}
use Rattle.std.proofs.Common.{ap, ◌∙◌, arith, lt-ltb, le-ltb, le-leb}
use Rattle.std.proofs.lemmas.List.{length-map}
use Rattle.std.proofs.lemmas.Bool.{lt-leb}
use Rattle.cursor.specs.PaddedLaws.{map_at}
use Rattle.request.specs.Request.{no_task, no_pair}
use Rattle.request.specs.declared.Task.{Task}
use Rattle.request.specs.declared.Pair.{Pair}
use Rattle.cut.specs.Cut.{piece, cut_tasks, cut_pair, cut_pairs, as_first, as_second}
use Rattle.cut.specs.Exactly.{FirstOf, SecondOf, CutTasks, CutPairs}

first_is : (i a : ℕ) → FirstOf i a (as_first i a)
first_is i a = record {
  below = λ h. rw (lt-ltb a i h);
  itself = λ e. rw (le-ltb a i (let l : i ≤ a = omega arith in l)) (omega arith);
  above = λ h. rw (le-ltb a i (let l : i ≤ a = omega arith in l));
}

second_is : (i b : ℕ) → SecondOf i b (as_second i b)
second_is i b = record {
  below = λ h. rw (le-leb b i (let l : b ≤ i = omega arith in l));
  itself = λ e. rw (le-leb b i (let l : b ≤ i = omega arith in l)) e;
  above = λ h. rw (lt-leb b i h);
}

pub pairs_are : (i : ℕ) (old : List Pair) → CutPairs i old (cut_pairs i old)
unfolding cut_pairs
pairs_are i old = record {
  front = refl;
  one_more = ap suc (length-map old (cut_pair i)) ∙ omega arith;
  first_of = λ v h. rw (map_at (cut_pair i) no_pair no_pair old v h) (first_is i (get_or old v no_pair).a);
  second_of = λ v h. rw (map_at (cut_pair i) no_pair no_pair old v h) (second_is i (get_or old v no_pair).b);
}

-- the same lists, one task at a time
cut_more : (x : Task) (tasks : List Task) (i u : ℕ) → cut_tasks (x ∷ tasks) (suc i) u ≡ x ∷ cut_tasks tasks i u
unfolding cut_tasks
cut_more x tasks i u = let e : suc i + 1 ≡ suc (i + 1) = omega arith in rw e

at_next : {A : Type 0} (x : A) (xs : List A) (k : ℕ) (d : A) → get_or (x ∷ xs) (k + 1) d ≡ get_or xs k d
at_next x xs k d = let e : k + 1 ≡ suc k = omega arith in rw e

pub tasks_are : (old : List Task) (i u : ℕ) → i < length old → u < (get_or old i no_task).c → CutTasks i u old (cut_tasks old i u)
unfolding cut_tasks
tasks_are [] i u h l = absurd (omega arith)
tasks_are (x ∷ old) zero u h l = record {
  one_more = omega arith;
  before = λ k k<. absurd (omega arith);
  first_piece = record { c_is = refl; same_t = refl; same_d = refl; same_p = refl };
  second_piece = λ c e. record { c_is = omega arith; same_t = refl; same_d = refl; same_p = refl };
  later = λ k k<. go k k<;
}
  where
    go : (k : ℕ) → 0 < k → get_or (piece u x ∷ piece (x.c - u) x ∷ old) (k + 1) no_task ≡ get_or (x ∷ old) k no_task
    go zero k< = absurd (omega arith)
    go (suc k) k< = at_next (piece u x) (piece (x.c - u) x ∷ old) (suc k) no_task
tasks_are (x ∷ old) (suc i) u h l =
    let c : CutTasks i u old (cut_tasks old i u) = tasks_are old i u (omega arith) l in
    rw (cut_more x old i u) (record {
      one_more = ap suc c.one_more ∙ omega arith;
      before = before c;
      first_piece = c.first_piece;
      second_piece = λ k e. rw (at_next x (cut_tasks old i u) (suc i) no_task, add i) (c.second_piece k e);
      later = later c;
    })
  where
    add : (i : ℕ) → suc i ≡ i + 1
    add i = omega arith

    before : CutTasks i u old (cut_tasks old i u) → (k : ℕ) → k < suc i → get_or (x ∷ cut_tasks old i u) k no_task ≡ get_or (x ∷ old) k no_task
    before c zero k< = refl
    before c (suc k) k< = c.before k (omega arith)

    later : CutTasks i u old (cut_tasks old i u) → (k : ℕ) → suc i < k → get_or (x ∷ cut_tasks old i u) (k + 1) no_task ≡ get_or (x ∷ old) k no_task
    later c zero k< = absurd (omega arith)
    later c (suc k) k< = at_next x (cut_tasks old i u) (suc k) no_task ∙ ap (λ (m : ℕ). get_or (cut_tasks old i u) m no_task) (add k) ∙ c.later k (omega arith)
