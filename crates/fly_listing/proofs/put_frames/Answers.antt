-- The loop keeps that putting the lines of the frames left, behind those put, gives the answer, and that the state is the one after the frames served.
use Rattle.std.proofs.Common.{◌*◌, ◌<◌, refl, sym, ap, ◌∙◌, arith}
use Rattle.std.proofs.lemmas.Result.{err_from_is_err_and}
use native.Mathlib.Nat.{sub-zero}
use Rattle.request.specs.SectionLaws.{no_zero}
use Rattle.table.specs.Table.{decode}
use Rattle.table.specs.Answers.{sizes_ok}
use Rattle.dispatcher.specs.FrameLaws.{fresh_at}
use Rattle.dispatcher.specs.Numbered.{frame_ok}
use Rattle.flight.specs.Calls.{height}
use Rattle.plan_listing.specs.Answers.{table_in}
use Rattle.plan_listing.specs.ListingLaws.{SizesRead, sizes_read, sizes_refused_lem}
use Rattle.fly_listing.specs.FlownLaws.{frames_turn, frames_end, FrameRead, frame_read, frame_there}
use Rattle.fly_listing.proofs.put_frames.Goals as goal
use Rattle.fly_listing.proofs.put_frames.Goals.{In_ok-sizes, In_ok-frame}

sizes_are : (c : In_ok-sizes) → SizesRead (table_in (decode c.args.table.now)) (sizes_ok c.in_ok-sizes.sizes)
sizes_are c = sizes_read _ _ (rw c.in_ok-sizes.was at c.sizes.ensures)

pub returns-in_err-sizes : goal.returns-in_err-sizes
returns-in_err-sizes c =
    let p = err_from_is_err_and c.from_residual.result c.from_residual.ensures.1 in
    let none = sizes_refused_lem _ _ (rw c.in_err-sizes.was at c.sizes.ensures) (no_zero c.in_err-sizes.field-0.0) in
    rw (p.1, p.2) (refl, none.0, none.1)

pub loop-m-init : goal.loop-m-init
loop-m-init c =
    let s = c.args in
    let z = sizes_are (goal.at.loop-m-init c).In_ok-sizes in (
      ap (λ n. 3 * n) z.height_is,
      refl,
      λ some. c.fresh-state.ensures ∙ fresh_at (height (table_in (decode s.table.now))) some,
      rw
          (sub-zero _) refl,
    )

pub returns-in_err-frame : goal.returns-in_err-frame
returns-in_err-frame c =
    let z = sizes_are (goal.at.returns-in_err-frame c).In_ok-sizes in
    let some : 0 < height (table_in (decode c.args.table.now)) = omega (arith, c.loop-m-test.true, z.height_is) in
    let was = rw c.in_err-frame.was at c.next_frame.ensures in
    absurd (no_zero c.in_err-frame.field-0.0 (frame_there c.args.table.now c.loop-m.m c.loop-m.state _ was (c.loop-m.invariant.2 some) some))

read : (c : In_ok-frame) → 0 < height (table_in (decode c.args.table.now)) → FrameRead (table_in (decode c.args.table.now)) c.loop-m.m (frame_ok c.in_ok-frame.frame)
read c some = frame_read c.args.table.now c.loop-m.m c.loop-m.state _ (rw c.in_ok-frame.was at c.next_frame.ensures) (c.loop-m.invariant.2 some) some

pub put_frame-end-requires : goal.put_frame-end-requires
put_frame-end-requires c =
    let more = c.loop-m-test.true in
    let z = sizes_are (goal.at.put_frame-end-requires c).In_ok-sizes in
    let some : 0 < height (table_in (decode c.args.table.now)) = omega (arith, more, z.height_is) in
    (omega (arith, more, z.height_is, z.few), omega (arith, some, z.height_is), (read (goal.at.put_frame-end-requires c).In_ok-frame some).few)

pub loop-m-preserved : goal.loop-m-preserved
loop-m-preserved c =
    let more = c.loop-m-test.true in
    let t = table_in (decode c.args.table.now) in
    let z = sizes_are (goal.at.loop-m-preserved c).In_ok-sizes in
    let some : 0 < height t = omega (arith, more, z.height_is) in
    let now = read (goal.at.loop-m-preserved c).In_ok-frame some in (
      c.loop-m.invariant.0,
      c.put_frame-end.auto.out ∙ c.loop-m.invariant.1,
      λ some. now.state,
      rw (c.put_frame-end.ensures, z.f_is, z.height_is, now.entries)
          (frames_turn t (3 * height t) c.loop-m.m _ (omega (arith, more, z.height_is))) ∙ c.loop-m.invariant.3,
    )

pub returns : goal.returns
returns c =
    let l = c.loop-m in
    let s = c.args in
    let t = table_in (decode s.table.now) in
    sym (frames_end t (3 * height t) l.m _ (omega (arith, c.loop-m-test.false, l.invariant.0))) ∙ l.invariant.3
