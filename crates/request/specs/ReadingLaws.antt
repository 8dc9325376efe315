-- The laws by which the readers of a record go: a task is 8 bytes wide and a pair 2, so an answer with a cursor tells what the
-- definition reads there.
use Rattle.std.specs.Prelude.{ℕ, ◌+◌, ◌≤◌, ◌≡◌, refl, List, drop, Some}
use Rattle.std.proofs.Common.{arith}
use Rattle.cursor.specs.Parsed.{got, refused}
use Rattle.cursor.specs.Fields.{byte_of, word_of, byte_at, word_at}
use Rattle.cursor.specs.FieldLaws.{byte_taken, word_taken}
use Rattle.cursor.specs.Widths.{Wide, byte_wide, word_wide, then_wide, rule_wide, a_record, a_number, record_taken, record_refused}
use Rattle.cursor.specs.declared.Cursor.{Cursor}
use Rattle.request.specs.Request.{task_of, judged_task, task_rule, pair_of, judged_pair, pair_rule}
use Rattle.request.specs.Answers.{task_read, pair_read}
use Rattle.request.specs.declared.Task.{Task}
use Rattle.request.specs.declared.Pair.{Pair}

-- the numbers of the first section and of the second
abbrev pub TaskNumber : ℕ → Type 0
TaskNumber number = (1 ≤ number) × (number ≤ 3)

abbrev pub PairNumber : ℕ → Type 0
PairNumber number = (1 ≤ number) × (number ≤ 5)

pub task_wide : (bytes : List ℕ) → Wide TaskNumber 8 bytes (task_of bytes)
unfolding task_of judged_task
task_wide bytes =
    let word = word_wide TaskNumber 1 (omega arith) in
    then_wide TaskNumber 2 6 bytes (word_of 1 bytes) _ (word bytes) (λ c rest.
    then_wide TaskNumber 2 4 rest (word_of 1 rest) _ (word rest) (λ t rest.
    then_wide TaskNumber 2 2 rest (word_of 1 rest) _ (word rest) (λ d rest.
    then_wide TaskNumber 2 0 rest (word_of 1 rest) _ (word rest) (λ p rest.
    rule_wide TaskNumber (task_rule (record { c = c; t = t; d = d; p = p })) _ rest 3 (omega arith)))))

pub pair_wide : (tasks : List Task) (bytes : List ℕ) → Wide PairNumber 2 bytes (pair_of tasks bytes)
unfolding pair_of judged_pair
pair_wide tasks bytes =
    let byte = byte_wide PairNumber 1 (omega arith) in
    then_wide PairNumber 1 1 bytes (byte_of 1 bytes) _ (byte bytes) (λ a rest.
    then_wide PairNumber 1 0 rest (byte_of 1 rest) _ (byte rest) (λ b rest. rule_wide PairNumber (pair_rule tasks a b) _ rest 5 (omega arith)))

-- four words in a row are a task, which is judged
module _ (s : List ℕ) (at : ℕ) {c t d p : ℕ} {k1 k2 k3 k4 : Cursor}
    (e1 : word_at s at ≡ Some (c, k1)) (e2 : word_at s k1.at ≡ Some (t, k2)) (e3 : word_at s k2.at ≡ Some (d, k3)) (e4 : word_at s k3.at ≡ Some (p, k4)) where
  pub task_words : task_of (drop at s) ≡ judged_task (record { c = c; t = t; d = d; p = p }) (drop k4.at s)
  unfolding task_of
  task_words =
      simp ((word_taken 1 s at c k1 e1).field, (word_taken 1 s k1.at t k2 e2).field, (word_taken 1 s k2.at d k3 e3).field, (word_taken 1 s k3.at p k4 e4).field)

  pub task_end : k4 ≡ record { at = at + 8 }
  task_end =
      let one = (word_taken 1 s at c k1 e1).moved in
      let two = (word_taken 1 s k1.at t k2 e2).moved in
      let three = (word_taken 1 s k2.at d k3 e3).moved in
      let moved : k4.at ≡ at + 8 = omega (arith, one, two, three, (word_taken 1 s k3.at p k4 e4).moved) in
      λ i. record { at = moved i }

-- two bytes in a row are a pair, which is judged
module _ (s : List ℕ) (at : ℕ) {a b : ℕ} {k1 k2 : Cursor} (e1 : byte_at s at ≡ Some (a, k1)) (e2 : byte_at s k1.at ≡ Some (b, k2)) where
  pub pair_bytes_lem : (tasks : List Task) → pair_of tasks (drop at s) ≡ judged_pair tasks a b (drop k2.at s)
  unfolding pair_of
  pair_bytes_lem tasks = simp ((byte_taken 1 s at a k1 e1).field, (byte_taken 1 s k1.at b k2 e2).field)

  pub pair_end : k2 ≡ record { at = at + 2 }
  pair_end =
      let moved : k2.at ≡ at + 2 = omega (arith, (byte_taken 1 s at a k1 e1).moved, (byte_taken 1 s k1.at b k2 e2).moved) in
      λ i. record { at = moved i }

module _ (s : List ℕ) (at : ℕ) where
  pub task_taken : {x : Task} {next : Cursor} → task_read at (task_of (drop at s)) ≡ a_record x next
      → (task_of (drop at s) ≡ got x (drop next.at s)) × (next.at ≡ at + 8)
  task_taken = record_taken a_record a_number (λ t. t) (λ x next. refl) (λ number. refl) 8 at s TaskNumber (task_of (drop at s)) (task_wide (drop at s)) _ _

  pub task_refused : {number : ℕ} → task_read at (task_of (drop at s)) ≡ a_number number → task_of (drop at s) ≡ refused number
  task_refused = record_refused a_record a_number (λ t. t) (λ x next. refl) (λ number. refl) 8 at s (task_of (drop at s)) _

module _ (tasks : List Task) (s : List ℕ) (at : ℕ) where
  pub pair_taken : {x : Pair} {next : Cursor} → pair_read at (pair_of tasks (drop at s)) ≡ a_record x next
      → (pair_of tasks (drop at s) ≡ got x (drop next.at s)) × (next.at ≡ at + 2)
  pair_taken = record_taken a_record a_number (λ t. t) (λ x next. refl) (λ number. refl) 2 at s PairNumber (pair_of tasks (drop at s)) (pair_wide tasks (drop at s)) _ _

  pub pair_refused : {number : ℕ} → pair_read at (pair_of tasks (drop at s)) ≡ a_number number → pair_of tasks (drop at s) ≡ refused number
  pair_refused = record_refused a_record a_number (λ t. t) (λ x next. refl) (λ number. refl) 2 at s (pair_of tasks (drop at s)) _
