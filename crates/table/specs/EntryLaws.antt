-- An entry and its two bytes: each is the other.
use Rattle.std.specs.Prelude.{ℕ, ◌+◌, ◌%◌, ◌<◌, ◌≡◌, Bool}
use Rattle.std.proofs.Math.Path.{refl}
use Rattle.std.proofs.Math.Bool.{true, false, cond}
use Rattle.std.proofs.Common.{arith}
use Rattle.std.proofs.Math.Dec.{leb}
use borrow.Author.Tests.{leb-true, leb-false, le-leb, lt-leb}
use Rattle.table.specs.Table.{Entry, job_bits, job_byte, entry_of}

module _ (task byte : ℕ) where
  pub task_of_byte : (entry_of task byte).task ≡ task
  unfolding entry_of
  task_of_byte = refl

  pub number_of_byte : (entry_of task byte).number ≡ byte % 128
  unfolding entry_of
  number_of_byte = refl

  pub carried_of_byte : (entry_of task byte).carried ≡ leb 128 byte
  unfolding entry_of
  carried_of_byte = refl

  pub job_of_byte : byte < 256 → job_byte (entry_of task byte) ≡ byte
  unfolding job_byte entry_of
  job_of_byte h = go (leb 128 byte) refl
    where
      go : (t : Bool) → leb 128 byte ≡ t → byte % 128 + cond t 128 0 ≡ byte
      go true q = omega (arith, leb-true 128 byte q)
      go false q = omega (arith, leb-false 128 byte q)

byte_of_job : (task number : ℕ) (c : Bool) → number < 128 → entry_of task (number + cond c 128 0) ≡ record { task = task; number = number; carried = c }
unfolding entry_of
byte_of_job task number true h =
    let same : (number + 128) % 128 ≡ number = omega arith in
    rw (same, le-leb 128 (number + 128) (omega arith))
byte_of_job task number false h =
    let same : (number + 0) % 128 ≡ number = omega arith in
    rw (same, lt-leb 128 (number + 0) (omega arith))

pub byte_of_entry : (e : Entry) → job_byte e ≡ job_bits e.number e.carried
unfolding job_byte
byte_of_entry e = refl

pub entry_back : (e : Entry) → e.number < 128 → entry_of e.task (job_byte e) ≡ e
unfolding job_byte
entry_back e h = byte_of_job e.task e.number e.carried h
