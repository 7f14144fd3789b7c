use Rattle.std.proofs.Common.{◌∙◌, List, ap, sym}
use Rattle.room_table.specs.declared.object.Object.{Object}
use Rattle.exit_crossing.proofs.Resting.{already, put_back, has_id, tile_at, resting, no_creep, not_moved}
use Rattle.exit_crossing.proofs.leaving.rest_one.Goals as goal
use Rattle.exit_crossing.proofs.leaving.rest_one.Goals.{else-is_creep-via-then-is_creep+else-object-ne0, else-is_creep-via-else-is_creep}

pub set-requires-clause-tile : goal.set-requires-clause-tile
set-requires-clause-tile c =
    let on = tile_at c.args.room.now.objects c.args.place c.in-Some.object.now c.requires.tiles (sym c.in-Some.ensures) in
    record { column = on.column; row = on.row }

pub set-requires-clause-there : goal.set-requires-clause-there
set-requires-clause-there c =
    has_id c.args.room.now.objects c.args.place c.in-Some.object.now c.stands_in_order.ensures.rising (sym c.in-Some.ensures)

pub returns-then-object-ne0 : goal.returns-then-object-ne0
returns-then-object-ne0 c =
    let room = c.args.room.now in
    let object = c.in-Some.object.now in
    c.set.ensures
    ∙ ap (λ (objects : List Object). record room { objects = objects })
    (put_back room.objects c.args.place object (record object { other_ticks = 0 }) c.stands_in_order.ensures.rising (sym c.in-Some.ensures) (resting object (sym c.is_creep.ensures ∙ c.if-is_creep.true)))

pub returns-else-is_creep : goal.returns-else-is_creep
returns-else-is_creep c =
    let room = c.args.room.now in
    let object = c.in-Some.object.now in
    elim c.else-is_creep.branch [
      | else-is_creep-via-then-is_creep+else-object-ne0 w ↦ ap (λ (objects : List Object). record room { objects = objects }) (sym (already room.objects c.args.place object (sym c.in-Some.ensures) (not_moved object w.if-object-ne0.false)))
      | else-is_creep-via-else-is_creep w ↦ ap (λ (objects : List Object). record room { objects = objects }) (sym (already room.objects c.args.place object (sym c.in-Some.ensures) (no_creep object (sym c.is_creep.ensures ∙ w.if-is_creep.false))))
    ]
