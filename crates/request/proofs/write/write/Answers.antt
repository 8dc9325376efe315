-- The length is known before the first byte; the test is one of the request's length.
use Rattle.std.proofs.Common.{◌≡◌, ◌≤◌, min, length, take, rules, arith, length-take}
use Rattle.cursor.specs.Padded.{firsts}
use Rattle.cursor.specs.WrittenLaws.{not_written, all_written}
use Rattle.request.specs.Request.{no_task, no_pair}
use Rattle.request.specs.Encode.{request_bytes}
use Rattle.request.specs.WriteLaws.{request_length, parts_are}
use Rattle.request.proofs.write.write.Goals as goal
use Rattle.request.proofs.write.write.Goals.{Else-out-request_length}

-- the parts are the first places
parts : (c : Else-out-request_length) → let a = c.args in
    request_bytes (take c.min-count.result a.tasks) (take c.min-links.result a.pairs) a.g
    ≡ request_bytes (firsts (min a.n 16) no_task a.tasks) (firsts (min a.m 16) no_pair a.pairs) a.g
parts c = parts_are _ _ _ _ _ c.args.out.now _ _ c.min-count.ensures c.min-links.ensures (search rules) (search rules)

long : (c : Else-out-request_length) → let a = c.args in
    length (request_bytes (firsts (min a.n 16) no_task a.tasks) (firsts (min a.m 16) no_pair a.pairs) a.g) ≤ length a.out.now
long c =
    rw (request_length _ _ _ _ _ c.args.out.now) (omega (arith, c.if-out-request_length.false, c.request_length.ensures, c.min-count.ensures, c.min-links.ensures))

pub returns-then-out-request_length : goal.returns-then-out-request_length
returns-then-out-request_length c =
    not_written _ _
    (rw (request_length _ _ _ _ _ c.args.out.now) (omega (arith, c.if-out-request_length.true, c.request_length.ensures, c.min-count.ensures, c.min-links.ensures)))

pub write_sections-requires : goal.write_sections-requires
write_sections-requires c =
    let before = (goal.at.write_sections-requires c).Else-out-request_length in
    (rw length-take (omega (arith, c.min-count.ensures)), rw length-take (omega (arith, c.min-links.ensures)), rw (parts before) (long before))

pub returns : goal.returns
returns c =
    let before = (goal.at.returns c).Else-out-request_length in
    all_written _ _ (long before) _ _ (rw (parts before) at c.write_sections.ensures)
