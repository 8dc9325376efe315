-- Each way out is one case of the definition; where the row has room, the sum fits 16 bits.
use Rattle.std.proofs.Common.{sym, ◌∙◌, arith}
use Rattle.draft.specs.MoveLaws.{in_range, rows_are, outside, full, room_fits, breaks, stands}
use Rattle.draft.proofs.put_there.Goals as goal

pub offset_bounds-cycle-y : goal.offset_bounds-cycle-y
offset_bounds-cycle-y c = omega (arith, in_range _ _ _ c.requires)

pub bounds-cycle-y : goal.bounds-cycle-y
bounds-cycle-y c = in_range _ _ _ c.requires

pub returns-then-not-in_window : goal.returns-then-not-in_window
returns-then-not-in_window c =
    outside _ _ _ c.requires _ (sym c.in_window.ensures ∙ c.if-not-in_window.true)

pub row_of-row-requires : goal.row_of-row-requires
row_of-row-requires c = rows_are _ _ _ c.requires

pub offset_bounds-draft-row : goal.offset_bounds-draft-row
offset_bounds-draft-row c = omega (arith, c.row_of-row.ensures.1)

pub bounds-draft-row : goal.bounds-draft-row
bounds-draft-row c = c.row_of-row.ensures.1

pub cost_at-cost-requires : goal.cost_at-cost-requires
cost_at-cost-requires c = (c.requires.known, c.requires.limits.few_jobs)

pub returns-then-not-has_room : goal.returns-then-not-has_room
returns-then-not-has_room c =
    let inside = sym c.in_window.ensures ∙ c.if-not-in_window.false in
    full _ _ _ c.requires _ inside _ _ c.row_of-row.ensures.0 c.cost_at-cost.ensures
    (sym c.has_room.ensures ∙ c.if-not-has_room.true)

pub overflow_cast-cost : goal.overflow_cast-cost
overflow_cast-cost c =
    let inside = sym c.in_window.ensures ∙ c.if-not-in_window.false in
    let room = sym c.has_room.ensures ∙ c.if-not-has_room.false in
    let fits = room_fits _ _ _ c.requires _ inside _ _ c.row_of-row.ensures.0 c.cost_at-cost.ensures room in
    omega (arith, fits, c.cost_at-cost.type_inv)

pub overflow_add-load : goal.overflow_add-load
overflow_add-load c =
    let inside = sym c.in_window.ensures ∙ c.if-not-in_window.false in
    let room = sym c.has_room.ensures ∙ c.if-not-has_room.false in
    let fits = room_fits _ _ _ c.requires _ inside _ _ c.row_of-row.ensures.0 c.cost_at-cost.ensures room in
    omega (arith, fits)

pub touched-after-requires : goal.touched-after-requires
touched-after-requires c =
    (in_range _ _ _ c.requires, c.row_of-row.ensures.1)

pub returns-then-not-is_sound : goal.returns-then-not-is_sound
returns-then-not-is_sound c =
    let inside = sym c.in_window.ensures ∙ c.if-not-in_window.false in
    let room = sym c.has_room.ensures ∙ c.if-not-has_room.false in
    breaks _ _ _ c.requires _ inside _ _ c.row_of-row.ensures.0 c.cost_at-cost.ensures room _
    c.touched-after.ensures (sym c.is_sound.ensures ∙ c.if-not-is_sound.true)

pub returns : goal.returns
returns c =
    let inside = sym c.in_window.ensures ∙ c.if-not-in_window.false in
    let room = sym c.has_room.ensures ∙ c.if-not-has_room.false in
    stands _ _ _ c.requires _ inside _ _ c.row_of-row.ensures.0 c.cost_at-cost.ensures room _
    c.touched-after.ensures (sym c.is_sound.ensures ∙ c.if-not-is_sound.false)
