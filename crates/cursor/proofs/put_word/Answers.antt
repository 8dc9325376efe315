-- Two stores, of which one behind the end changes nothing.
use Rattle.std.proofs.Common.{ℕ, suc, ◌%◌, ◌/◌, ◌≡◌, sym, ap, ◌∙◌, List, add-one, arith, set}
use lib.Seq.{set_out}
use Rattle.cursor.specs.Fields.{word_bytes}
use Rattle.cursor.proofs.put_word.Goals as goal

pub returns-then-out-at : goal.returns-then-out-at
unfolding word_bytes
returns-then-out-at c =
    let a = c.args in
    let out = a.out.now in
    let one : set out a.at (a.w % 256) ≡ out = set_out out a.at (a.w % 256) c.if-out-at.true in
    sym (ap (λ (l : List ℕ). set l (suc a.at) (a.w / 256)) one ∙ set_out out (suc a.at) (a.w / 256) (omega (arith, c.if-out-at.true)))

pub returns-then-out-at-2 : goal.returns-then-out-at-2
unfolding word_bytes
returns-then-out-at-2 c =
    let a = c.args in
    sym (set_out _ (suc a.at) (a.w / 256) (omega (arith, c.if-out-at-2.true)))

pub returns : goal.returns
unfolding word_bytes
returns c = rw (add-one c.args.at)
