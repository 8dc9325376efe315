-- What the reader's answer says of the bytes: they are a request, or they are refused with the answer's number.
use Rattle.std.specs.Prelude.{ℕ, ◌<◌, ◌≡◌, refl, List, length, get_or}
use Rattle.std.proofs.Common.{ap, ◌∙◌, arith}
use Rattle.cursor.specs.PaddedLaws.{get_or_padded}
use Rattle.request.specs.Request.{Reading, readable, unreadable, reading, no_task}
use Rattle.request.specs.Answers.{request_answered}
use Rattle.request.specs.Readable.{Readable}
use Rattle.request.specs.ReadableLaws.{readable_kept, unreadable_number, unread_pos}
use Rattle.request.specs.declared.Task.{Task}
use Rattle.request.specs.declared.Pair.{Pair}
use Rattle.request.specs.Numbered.{Request}

-- the request was read
pub record WasRead (bytes : List ℕ) (r : Request) : Type 0 where
  pub tasks : List Task
  pub pairs : List Pair
  pub g : ℕ
  pub is : reading bytes ≡ readable tasks pairs g
  pub kept : Readable tasks pairs
  pub n_is : r.n ≡ length tasks
  pub task_is : (i : ℕ) → i < length tasks → get_or r.tasks i no_task ≡ get_or tasks i no_task

module _ (bytes : List ℕ) (r : Request) (e : r ≡ request_answered (reading bytes)) where
  pub was_read : r.refusal ≡ 0 → WasRead bytes r
  was_read z = go (reading bytes) refl e
    where
      go : (x : Reading) → reading bytes ≡ x → r ≡ request_answered x → WasRead bytes r
      go (readable tasks pairs g) is q = record {
        tasks = tasks;
        pairs = pairs;
        g = g;
        is = is;
        kept = readable_kept bytes tasks pairs g is;
        n_is = ap (λ (y : Request). y.n) q;
        task_is = λ i h. rw q (get_or_padded 16 no_task tasks i h);
      }
      go (unreadable number) is q =
          let positive = unread_pos (unreadable_number bytes number is) in
          absurd (omega (arith, ap (λ (y : Request). y.refusal) q))

  pub not_read : (r.refusal ≡ 0 → ⊥) → reading bytes ≡ unreadable r.refusal
  not_read ne = go (reading bytes) refl e
    where
      go : (x : Reading) → reading bytes ≡ x → r ≡ request_answered x → reading bytes ≡ unreadable r.refusal
      go (readable tasks pairs g) is q = absurd (ne (ap (λ (y : Request). y.refusal) q))
      go (unreadable number) is q = is ∙ rw q
