-- What stands in the buffer after a call that writes a request or refuses: the file and behind it the old bytes, or the old bytes alone.
use Rattle.std.specs.Prelude.{ℕ, ◌≤◌, ◌≡◌, List, length, drop}
use Rattle.std.proofs.Math.Path.{refl}
use Rattle.std.proofs.Common.{append-nil, le-ltb}
use native.Mathlib.Omega.{arith}
use Rattle.request.specs.Request.{Reading, readable, unreadable}
use Rattle.request.specs.Encode.{silent_bytes, two_sections, request_bytes}
use Rattle.request.specs.declared.Task.{Task}
use Rattle.request.specs.declared.Pair.{Pair}
use Rattle.cursor.specs.Written.{written, buffer}
use Rattle.cursor.specs.WrittenLaws.{written_most, file_there}
use Rattle.request.specs.Written.{request_answer, request_buffer, own_number, file_of}
use Rattle.request.specs.WriteLaws.{bytes_short}

-- "A g of 0 is written by leaving the third section out."
pub no_silence : (tasks : List Task) (pairs : List Pair) (g : ℕ) → g ≡ 0 → request_bytes tasks pairs g ≡ two_sections tasks pairs
unfolding request_bytes silent_bytes
no_silence tasks pairs g z = rw z (append-nil (two_sections tasks pairs))

pub refusal_answered : (number : ℕ) (out : List ℕ)
    → (request_answer (unreadable number) out ≡ record { refusal = number; length = 0 }) × (request_buffer (unreadable number) out ≡ out)
unfolding request_answer request_buffer
refusal_answered number out = (refl, refl)

pub request_answered_lem : (tasks : List Task) (pairs : List Pair) (g : ℕ) (out : List ℕ)
    → (request_answer (readable tasks pairs g) out ≡ written (request_bytes tasks pairs g) out)
    × (request_buffer (readable tasks pairs g) out ≡ buffer (request_bytes tasks pairs g) out)
unfolding request_answer request_buffer
request_answered_lem tasks pairs g out = (refl, refl)

-- the file in the buffer is that of a request, and the bytes behind it keep their content
pub record HasFile (r : Reading) (out : List ℕ) : Type 0 where
  pub tasks : List Task
  pub pairs : List Pair
  pub g : ℕ
  pub is : r ≡ readable tasks pairs g
  pub file : file_of r out ≡ request_bytes tasks pairs g
  pub behind : drop (request_answer r out).length (request_buffer r out) ≡ drop (request_answer r out).length out

module _ (out : List ℕ) where
  pub has_file : (r : Reading) → ((number : ℕ) → r ≡ unreadable number → number ≡ 0 → ⊥) → (request_answer r out).refusal ≡ 0 → HasFile r out
  unfolding request_answer request_buffer
  has_file (unreadable number) some z = absurd (some number refl z)
  has_file (readable tasks pairs g) some z =
      let h = file_there (request_bytes tasks pairs g) out z in
      record { tasks = tasks; pairs = pairs; g = g; is = refl; file = h.file; behind = h.behind }

  module _ (r : Reading) (few : (tasks : List Task) (pairs : List Pair) (g : ℕ) → r ≡ readable tasks pairs g → (length tasks ≤ 16) × (length pairs ≤ 16)) where
    -- a request of at most 16 tasks and 16 pairs has at most 164 bytes
    pub answer_short : (request_answer r out).length ≤ 164
    unfolding request_answer
    answer_short = go r refl
      where
        go : (q : Reading) → r ≡ q → (request_answer q out).length ≤ 164
        go (unreadable number) e = omega arith
        go (readable tasks pairs g) e =
            let h = few tasks pairs g e in
            omega (arith, written_most (request_bytes tasks pairs g) out, bytes_short tasks pairs g h.0 h.1)

    -- so a buffer of 164 bytes or more is not too short for it: it is written, or refused by its own number
    pub answer_enough : 164 ≤ length out → (request_answer r out).refusal ≡ own_number r
    unfolding request_answer written
    answer_enough long = go r refl
      where
        go : (q : Reading) → r ≡ q → (request_answer q out).refusal ≡ own_number q
        go (unreadable number) e = refl
        go (readable tasks pairs g) e =
            let h = few tasks pairs g e in
            rw (le-ltb (length out) (length (request_bytes tasks pairs g)) (omega (arith, bytes_short tasks pairs g h.0 h.1)))
