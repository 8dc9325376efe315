-- The first section is read from the front, each other one from the part behind the one before; each way out is one law of the sections.
use Rattle.std.specs.Prelude.{Ok}
use Rattle.std.proofs.Common.{refl, sym, ap, ◌∙◌, arith, length-take-le}
use Rattle.std.proofs.lemmas.Result.{err_from_is_err_and}
use Rattle.cursor.specs.Parts.{rest_part}
use Rattle.request.specs.Answers.{tasks_said, pairs_said, silent_said}
use Rattle.request.specs.SectionLaws.{no_zero, FirstSection, first_section, refused_first, SecondSection, refused_second, second_section, refused_third, bytes_follow, all_read}
use Rattle.request.proofs.read.Goals as goal
use Rattle.request.proofs.read.Goals.{In_ok-n, In_ok-m}

first : (c : In_ok-n) → FirstSection c.args.s.now (tasks_said (Ok c.in_ok-n.field-0))
first c = first_section _ _ (ap tasks_said (sym c.in_ok-n.was) ∙ c.read_tasks.ensures) refl

second : (c : In_ok-m) → SecondSection c.args.s.now (tasks_said (Ok c.in_ok-n.field-0)) (pairs_said (Ok c.in_ok-m.field-0))
second c = second_section _ _ (first (goal.at.In_ok-m c).In_ok-n) _ (ap pairs_said (sym c.in_ok-m.was) ∙ (rw rest_part at c.read_pairs.ensures)) refl

pub returns-in_err-n : goal.returns-in_err-n
returns-in_err-n c =
    let p = err_from_is_err_and c.from_residual.result c.from_residual.ensures.1 in
    rw (p.1, p.2) (refused_first _ _ (ap tasks_said (sym c.in_err-n.was) ∙ c.read_tasks.ensures) (no_zero c.in_err-n.field-0.0))

pub slice_bounds-read_pairs-count : goal.slice_bounds-read_pairs-count
slice_bounds-read_pairs-count c = (first (goal.at.slice_bounds-read_pairs-count c).In_ok-n).within

pub slice_bounds-read_pairs-start : goal.slice_bounds-read_pairs-start
slice_bounds-read_pairs-start c = (first (goal.at.slice_bounds-read_pairs-start c).In_ok-n).within

pub slice_bounds-tasks-end : goal.slice_bounds-tasks-end
slice_bounds-tasks-end c = let h = first (goal.at.slice_bounds-tasks-end c).In_ok-n in omega (arith, h.few, h.places)

pub slice_bounds-read_pairs-end-2 : goal.slice_bounds-read_pairs-end-2
slice_bounds-read_pairs-end-2 c =
    let h = first (goal.at.slice_bounds-read_pairs-end-2 c).In_ok-n in
    sym (length-take-le _ _ (omega (arith, h.few, h.places)))

pub returns-in_err-m : goal.returns-in_err-m
returns-in_err-m c =
    let p = err_from_is_err_and c.from_residual-in_err-m.result c.from_residual-in_err-m.ensures.1 in
    rw (p.1, p.2)
    (refused_second _ _ (first (goal.at.returns-in_err-m c).In_ok-n) _ (ap pairs_said (sym c.in_err-m.was) ∙ (rw rest_part at c.read_pairs.ensures))
    (no_zero c.in_err-m.field-0.0))

pub overflow_add-behind : goal.overflow_add-behind
overflow_add-behind c = omega (arith, (second (goal.at.overflow_add-behind c).In_ok-m).within, c.well_formed.0.0)

pub slice_bounds-read_silent-count : goal.slice_bounds-read_silent-count
slice_bounds-read_silent-count c = (second (goal.at.slice_bounds-read_silent-count c).In_ok-m).within

pub slice_bounds-read_silent-start : goal.slice_bounds-read_silent-start
slice_bounds-read_silent-start c = (second (goal.at.slice_bounds-read_silent-start c).In_ok-m).within

pub returns-in_err-g : goal.returns-in_err-g
returns-in_err-g c =
    let p = err_from_is_err_and c.from_residual-in_err-g.result c.from_residual-in_err-g.ensures.1 in
    rw (p.1, p.2)
    (refused_third _ _ _ (second (goal.at.returns-in_err-g c).In_ok-m) _ (ap silent_said (sym c.in_err-g.was) ∙ (rw rest_part at c.read_silent.ensures))
    (no_zero c.in_err-g.field-0.0))

pub overflow_sub-s : goal.overflow_sub-s
overflow_sub-s c = (second (goal.at.overflow_sub-s c).In_ok-m).within

pub returns-then-third-s : goal.returns-then-third-s
returns-then-third-s c =
    bytes_follow _ _ _ (second (goal.at.returns-then-third-s c).In_ok-m) _ (ap silent_said (sym c.in_ok-g.was) ∙ (rw rest_part at c.read_silent.ensures))
    refl c.if-third-s.true

pub returns : goal.returns
returns c =
    all_read _ _ _ (second (goal.at.returns c).In_ok-m) _ (ap silent_said (sym c.in_ok-g.was) ∙ (rw rest_part at c.read_silent.ensures))
    refl c.if-third-s.false
