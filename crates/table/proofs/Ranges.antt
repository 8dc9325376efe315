-- What a range's `contains` answers at numbers: the tests of its two ends.
use Rattle.std.specs.Prelude.{ℕ, ◌≡◌, Bool, ◌&&◌, leb, ltb}
use Rattle.std.proofs.Common.{sym, ◌∙◌, arith}
use Rattle.std.specs.Ordering.{is_le, is_lt, nat_cmp}

le_compared : (a b : ℕ) → is_le (nat_cmp a b) ≡ leb a b
le_compared a b = grind arith

lt_compared : (a b : ℕ) → is_lt (nat_cmp a b) ≡ ltb a b
lt_compared a b = grind arith

module _ (a b x : ℕ) (answer told : Bool) (is : answer ≡ told) where
  -- `a..b`
  pub half_open : answer ≡ (is_le (nat_cmp a x) && is_lt (nat_cmp x b)) → (leb a x && ltb x b) ≡ told
  half_open e = sym (e ∙ rw (le_compared, lt_compared)) ∙ is

  -- `a..=b`
  pub closed : answer ≡ (is_le (nat_cmp a x) && is_le (nat_cmp x b)) → (leb a x && leb x b) ≡ told
  closed e = sym (e ∙ rw (le_compared a x, le_compared x b)) ∙ is
