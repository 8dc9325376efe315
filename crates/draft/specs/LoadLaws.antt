-- The loop that adds up the rows: no row's sum exceeds 16 bits, so no sum so far does.
use Rattle.std.specs.Prelude.{ℕ, ◌+◌, ◌-◌, ◌%◌, ◌≤◌, ◌<◌, ◌≡◌, true, List, [], length, get_or, set, replicate}
use Rattle.std.proofs.Common.{◌∙◌, ⊎_elim, mod-lt, arith, get_or-set_other}
use Rattle.std.proofs.lemmas.Bool.{false≢true}
use borrow.Author.Tests.{le-leb}
use Rattle.cursor.specs.ChoiceLaws.{lt_or_ge}
use Rattle.cursor.specs.PaddedLaws.{get_or_blanks}
use Rattle.plan_rules.specs.Every.{every}
use Rattle.plan_rules.specs.EveryLaws.{says_every}
use Rattle.plan_rules.specs.Rules.{capacity_kept}
use Rattle.plan_rules.specs.LoopLaws.{Kept, kept_none, row_in, put_more, too_full}
use Rattle.plan_rules.specs.Slices.{firsts_all}
use Rattle.draft.specs.Answers.{RowsFit, LoadsAre}

module _ (rows : ℕ) (cost frames : List ℕ) (long : length frames ≡ length cost) where
  -- the jobs before y are added up
  pub record Added (y : ℕ) (loads : List ℕ) : Type 0 where
    pub kept : Kept rows cost frames (length cost) 65535 y loads
    pub unused : (r : ℕ) → rows ≤ r → get_or loads r 0 ≡ 0

  pub none_added : Added 0 (replicate 256 0)
  none_added = record { kept = kept_none rows cost frames (length cost) 65535; unused = λ r h. get_or_blanks {A = ℕ} 256 0 [] r }

  -- job y has this cost and frame, and so its row
  module _ (fit : RowsFit rows cost frames) (y : ℕ) (loads : List ℕ) (so : Added y loads) (h : y < length cost)
      (c k row : ℕ) (c_is : c ≡ get_or cost y 0) (k_is : k ≡ get_or frames y 0) (row_is : row ≡ k % rows) where
    pub row_few : row < 256
    row_few = row_in rows cost frames 65535 long fit.some_row fit.few_rows y loads so.kept h c k row c_is k_is row_is

    within : every rows (capacity_kept rows cost frames 65535) ≡ true
    unfolding capacity_kept
    within = says_every (capacity_kept rows cost frames 65535) rows (λ r low. le-leb _ 65535 (fit.small r low))

    room : c ≤ 65535 - get_or loads row 0
    room =
        ⊎_elim
        (λ full. absurd
        (false≢true (too_full rows cost frames 65535 long fit.some_row fit.few_rows y loads so.kept h c k row c_is k_is row_is full ∙ within)))
        (λ le. le) (lt_or_ge (65535 - get_or loads row 0) c)

    pub sum_fits : get_or loads row 0 + c ≤ 65535
    sum_fits = omega (arith, room, so.kept.small row)

    pub one_added : (more : ℕ) → more ≡ y + 1 → Added more (set loads row (get_or loads row 0 + c))
    one_added more more_is = record {
      kept = put_more rows cost frames 65535 long fit.some_row fit.few_rows y loads so.kept h c k row c_is k_is row_is room more more_is;
      unused = λ r high.
          get_or-set_other loads row r (get_or loads row 0 + c) 0 (λ e. omega (arith, mod-lt k fit.some_row, row_is)) ∙ so.unused r high;
    }

  pub all_added : (y : ℕ) (loads : List ℕ) → Added y loads → y ≡ length cost → LoadsAre rows cost frames loads
  all_added y loads so e = record {
    size = so.kept.size;
    sums = λ r h. so.kept.loads r h ∙ rw (e, firsts_all 0 cost, ← long, firsts_all 0 frames);
    unused = so.unused;
  }
