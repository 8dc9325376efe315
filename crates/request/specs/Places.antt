-- A request that was read, as the writer takes one: its tasks and pairs stand in the first places of arrays.
use Rattle.std.specs.Prelude.{ℕ, ◌≤◌, ◌<◌, min, ◌≡◌, ◌⊎◌, List, length, get_or}
use Rattle.std.proofs.Common.{ap, ◌∙◌, inl, inr, arith}
use Rattle.std.proofs.Math.ListN.{get_or-eq_default}
use Rattle.cursor.specs.ChoiceLaws.{lt_or_ge}
use Rattle.cursor.specs.Padded.{padded, firsts}
use Rattle.cursor.specs.PaddedLaws.{firsts_padded, get_or_padded_any}
use Rattle.request.specs.Request.{readable, reading, no_task, no_pair}
use Rattle.request.specs.Answers.{request_answered}
use Rattle.request.specs.AnswerLaws.{was_read}
use Rattle.request.specs.Readable.{Readable}
use Rattle.request.specs.declared.Task.{Task}
use Rattle.request.specs.declared.Pair.{Pair}
use Rattle.request.specs.Numbered.{Request}

-- a request that was read
pub record ReadAs (bytes : List ℕ) (x : Request) : Type 0 where
  pub tasks : List Task
  pub pairs : List Pair
  pub g : ℕ
  pub is : reading bytes ≡ readable tasks pairs g
  pub kept : Readable tasks pairs
  pub n_is : x.n ≡ length tasks
  pub m_is : x.m ≡ length pairs
  pub g_is : x.g ≡ g
  pub tasks_are : x.tasks ≡ padded 16 no_task tasks
  pub pairs_are : x.pairs ≡ padded 16 no_pair pairs

-- the pairs name tasks below 16
pub record Few (pairs : List Pair) : Type 0 where
  pub first : (i : ℕ) → (get_or pairs i no_pair).a < 16
  pub second : (i : ℕ) → (get_or pairs i no_pair).b < 16

module _ (bytes : List ℕ) (x : Request) where
  pub read_as : x ≡ request_answered (reading bytes) → x.refusal ≡ 0 → ReadAs bytes x
  read_as e z =
      let w = was_read bytes x e z in
      let a : x ≡ request_answered (readable w.tasks w.pairs w.g) = e ∙ ap request_answered w.is in
      record {
        tasks = w.tasks;
        pairs = w.pairs;
        g = w.g;
        is = w.is;
        kept = w.kept;
        n_is = w.n_is;
        m_is = ap (λ (r : Request). r.m) a;
        g_is = ap (λ (r : Request). r.g) a;
        tasks_are = ap (λ (r : Request). r.tasks) a;
        pairs_are = ap (λ (r : Request). r.pairs) a;
      }

  module _ (o : ReadAs bytes x) where
    pub counts_few : (x.n ≤ 16) × (x.m ≤ 16)
    counts_few = (omega (arith, o.n_is, o.kept.few_tasks), omega (arith, o.m_is, o.kept.few_pairs))

    pub first_tasks : firsts x.n no_task x.tasks ≡ o.tasks
    first_tasks = rw (o.n_is, o.tasks_are) (firsts_padded 16 no_task o.tasks)

    pub first_pairs : firsts x.m no_pair x.pairs ≡ o.pairs
    first_pairs = rw (o.m_is, o.pairs_are) (firsts_padded 16 no_pair o.pairs)

    -- nothing stands behind the lists
    pub tasks_filled : x.tasks ≡ padded 16 no_task (firsts x.n no_task x.tasks)
    tasks_filled = rw first_tasks o.tasks_are

    pub pairs_filled : x.pairs ≡ padded 16 no_pair (firsts x.m no_pair x.pairs)
    pairs_filled = rw first_pairs o.pairs_are

    numbers_few : (i : ℕ) → ((get_or x.pairs i no_pair).a < 16) × ((get_or x.pairs i no_pair).b < 16)
    numbers_few i = rw (o.pairs_are, get_or_padded_any 16 no_pair o.pairs i) (there (lt_or_ge i (length o.pairs)))
      where
        there : (i < length o.pairs) ⊎ (length o.pairs ≤ i) → ((get_or o.pairs i no_pair).a < 16) × ((get_or o.pairs i no_pair).b < 16)
        there (inl h) =
            let k = o.kept.pair i h in
            let few = o.kept.few_tasks in
            (omega (arith, k.rises, k.known), omega (arith, k.known))
        there (inr h) = rw (get_or-eq_default o.pairs no_pair h) (omega arith, omega arith)

    pub pairs_few : Few x.pairs
    pairs_few = record { first = λ i. (numbers_few i).0; second = λ i. (numbers_few i).1 }

-- a list in an array is what as many places hold
pub places_hold : {A : Type 0} (blank : A) (xs : List A) (k : ℕ) → k ≡ length xs → k ≤ 16 → firsts (min k 16) blank (padded 16 blank xs) ≡ xs
places_hold blank xs k e h = let all : min k 16 ≡ length xs = omega arith in rw all (firsts_padded 16 blank xs)
