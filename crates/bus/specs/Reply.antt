-- What C gets: a number from 0 on, or the number of a refusal negated.
use Rattle.std.specs.Prelude.{ℕ, cond, ℤ, pos, neg_ℤ, eqb}
use Rattle.cursor.specs.Written.{Written}

abbrev pub refused_reply : ℕ → ℤ
refused_reply number = neg_ℤ (pos number)

-- the refusal 0 is none
unfoldable pub reply : ℕ → ℕ → ℤ
reply refusal value = cond (eqb refusal 0) (pos value) (refused_reply refusal)

-- of a file, a table or a request, its length
abbrev pub written_reply : Written → ℤ
written_reply w = reply w.refusal w.length

-- a buffer after a call: on a refusal it is as it was
unfoldable pub after : {A : Type 0} → ℕ → A → A → A
after refusal new old = cond (eqb refusal 0) new old
