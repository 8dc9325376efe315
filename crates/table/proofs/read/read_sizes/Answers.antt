-- Each way out is one case of the definition, at the bytes that the cursor's answers tell of.
use Rattle.std.specs.Prelude.{◌≡◌, cond, ◌&&◌, drop, leb}
use Rattle.std.proofs.Common.{sym, ◌∙◌, arith, eq-eqb, ne_eqb}
use Rattle.cursor.specs.Parsed.{got, refused, then}
use Rattle.cursor.specs.Fields.{word_of}
use Rattle.cursor.specs.FieldLaws.{byte_taken, byte_missing, word_taken, word_missing}
use Rattle.table.specs.Table.{sizes_from}
use Rattle.table.proofs.Ranges.{closed}
use Rattle.table.proofs.read.read_sizes.Goals as goal
use Rattle.table.proofs.read.read_sizes.Goals.{Else-mark-ne2, In_ok-h}

-- the mark is 2
marked : (c : Else-mark-ne2) → let at = c.in_ok-mark.second.at in let s = c.args.s.now in
    sizes_from s
    ≡ then (word_of 12 (drop at s)) (λ f rest.
    then (word_of 12 rest) (λ h rest. cond (leb 1 h && leb h 10000) (got (record { f = f; h = h }) rest) (refused 12)))
unfolding sizes_from
marked c =
    let one = byte_taken 12 _ _ _ _ (sym c.byte.ensures ∙ c.in_ok-mark.was) in
    rw (one.field, eq-eqb _ _ c.if-mark-ne2.false)

-- both sizes are read, and the second is to be judged
both_read : (c : In_ok-h) → let f = c.in_ok-f.f in
    let h = c.in_ok-h.h in let s = c.args.s.now in
    sizes_from s ≡ cond (leb 1 h && leb h 10000) (got (record { f = f; h = h }) (drop c.in_ok-h.next.at s)) (refused 12)
both_read c =
    let two = word_taken 12 _ _ _ _ (sym c.word.ensures ∙ c.in_ok-f.was) in
    let three = word_taken 12 _ _ _ _ (sym c.word-2.ensures ∙ c.in_ok-h.was) in
    rw (marked (goal.at.In_ok-h c).Else-mark-ne2, two.field, three.field)

pub returns-in_err-mark : goal.returns-in_err-mark
unfolding sizes_from
returns-in_err-mark c = rw c.from_residual.ensures (rw (byte_missing 12 _ _ (sym c.byte.ensures ∙ c.in_err-mark.was)).0)

pub returns-then-mark-ne2 : goal.returns-then-mark-ne2
unfolding sizes_from
returns-then-mark-ne2 c =
    let one = byte_taken 12 _ _ _ _ (sym c.byte.ensures ∙ c.in_ok-mark.was) in
    rw (one.field, ne_eqb _ _ c.if-mark-ne2.true)

pub returns-in_err-f : goal.returns-in_err-f
returns-in_err-f c =
    rw c.from_residual-in_err-f.ensures
    (rw (marked (goal.at.returns-in_err-f c).Else-mark-ne2, word_missing 12 _ _ (sym c.word.ensures ∙ c.in_err-f.was)))

pub returns-in_err-h : goal.returns-in_err-h
returns-in_err-h c =
    let two = word_taken 12 _ _ _ _ (sym c.word.ensures ∙ c.in_ok-f.was) in
    rw c.from_residual-in_err-h.ensures
    (rw (marked (goal.at.returns-in_err-h c).Else-mark-ne2, two.field, word_missing 12 _ _ (sym c.word-2.ensures ∙ c.in_err-h.was)))

pub returns-then-not-contains : goal.returns-then-not-contains
returns-then-not-contains c =
    let ends = c.new.ensures in
    let other = closed 1 10000 c.in_ok-h.h _ _ c.if-not-contains.true (rw (ends.start, ends.end, ends.exhausted) at c.contains.ensures.value) in
    rw (both_read (goal.at.returns-then-not-contains c).In_ok-h, other)

pub returns : goal.returns
returns c =
    let ends = c.new.ensures in
    let within = closed 1 10000 c.in_ok-h.h _ _ c.if-not-contains.false (rw (ends.start, ends.end, ends.exhausted) at c.contains.ensures.value) in
    let three = word_taken 12 _ _ _ _ (sym c.word-2.ensures ∙ c.in_ok-h.was) in
    (rw (both_read (goal.at.returns c).In_ok-h, within), omega (arith, three.moved, three.within))
