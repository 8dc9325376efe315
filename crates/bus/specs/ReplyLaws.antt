-- Numbers in C's int32_t: what is small enough is kept, with its sign.
use Rattle.std.specs.Prelude.{ℕ, zero, suc, ◌^◌, ◌<◌, ◌≡◌, ℤ, pos, ◌-ℤ◌}
use Rattle.std.proofs.Common.{ap, ◌∙◌, arith, eq-eqb, ne_eqb, to_z-of_z}
use Rattle.std.proofs.Math.IntN.{+ℤ_idl}
use Rattle.std.specs.Int.Signed.{mag}
use Rattle.std.specs.Int.{w32}
use mir.Val.{SFits, to_z, of_z, hbits}
use Rattle.std.proofs.Math.Facts.{to_z_pos}
use Rattle.cursor.specs.Written.{Written}
use Rattle.bus.specs.Reply.{refused_reply, reply, written_reply, after}

refused_fits : (n : ℕ) → n < 256 → SFits w32 (refused_reply n)
refused_fits zero h = record { sfits = omega arith }
refused_fits (suc n) h = record { sfits = omega arith }

negated : (n : ℕ) → n < 256 → pos 0 -ℤ to_z w32 n ≡ refused_reply n
negated n h = ap (λ (z : ℤ). pos 0 -ℤ z) (to_z_pos w32 {n = n} (omega arith)) ∙ +ℤ_idl (refused_reply n)

pub negated_fits : (n : ℕ) → n < 256 → SFits w32 (pos 0 -ℤ to_z w32 n)
negated_fits n h = rw (negated n h) (refused_fits n h)

pub negated_is : (n : ℕ) → n < 256 → to_z w32 (of_z w32 (pos 0 -ℤ to_z w32 n)) ≡ refused_reply n
negated_is n h = to_z-of_z (negated_fits n h) ∙ negated n h

pub value_is : (n : ℕ) → n < 65536 → to_z w32 n ≡ pos n
value_is n h = to_z_pos w32 {n = n} (omega arith)

-- an int32_t as a call left it
pub kept : (z : ℤ) → mag z < 2 ^ hbits w32 → to_z w32 (of_z w32 z) ≡ z
kept z h = to_z-of_z {w = w32} {z = z} (record { sfits = h })

module _ (number value : ℕ) where
  pub reply_refused : (number ≡ 0 → ⊥) → refused_reply number ≡ reply number value
  unfolding reply
  reply_refused h = rw (ne_eqb number 0 h)

  pub reply_value : number ≡ 0 → pos value ≡ reply number value
  unfolding reply
  reply_value h = rw (eq-eqb number 0 h)

-- a writer's answer w
module _ (w answer : Written) (e : w ≡ answer) where
  pub written_refused : (w.refusal ≡ 0 → ⊥) → refused_reply w.refusal ≡ written_reply answer
  written_refused h = reply_refused w.refusal w.length h ∙ ap written_reply e

  pub written_length : w.refusal ≡ 0 → pos w.length ≡ written_reply answer
  written_length h = reply_value w.refusal w.length h ∙ ap written_reply e

module _ {A : Type 0} (number : ℕ) (new old : A) where
  pub after_refusal : (number ≡ 0 → ⊥) → old ≡ after number new old
  unfolding after
  after_refusal h = rw (ne_eqb number 0 h)

  pub after_value : number ≡ 0 → new ≡ after number new old
  unfolding after
  after_value h = rw (eq-eqb number 0 h)
