-- Below the rows, from them on, or neither.
use Rattle.prune.proofs.Laws.{side_first, side_before, side_beyond, side_second}
use Rattle.prune.proofs.sides.side_of.Goals as goal

pub returns-then-h-rows : goal.returns-then-h-rows
returns-then-h-rows c =
    let if1 = c.if-h-rows in
    side_first c.args.rows c.args.l c.args.h if1.true

pub returns-then-l-rows : goal.returns-then-l-rows
returns-then-l-rows c =
    let if1 = c.if-h-rows in
    let if2 = c.if-l-rows in
    side_before c.args.rows c.args.l c.args.h if1.false if2.true

pub returns-then-h-rows-2 : goal.returns-then-h-rows-2
returns-then-h-rows-2 c =
    let if1 = c.if-h-rows in
    let if2 = c.if-l-rows in
    let if3 = c.if-h-rows-2 in
    side_beyond c.args.rows c.args.l c.args.h if1.false if2.false if3.true

pub returns : goal.returns
returns c =
    let if1 = c.if-h-rows in
    let if2 = c.if-l-rows in
    let if3 = c.if-h-rows-2 in
    side_second c.args.rows c.args.l c.args.h if1.false if2.false if3.false
