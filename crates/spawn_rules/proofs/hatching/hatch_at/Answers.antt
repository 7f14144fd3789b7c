use Rattle.std.proofs.Common.{◌-◌, refl, sym, ap, subst, ◌∙◌}
use Rattle.std.proofs.lemmas.Bool.{lt-ltb}
use Rattle.world_rules.specs.RoomParts.{table_part}
use Rattle.room_rules.specs.Calls.{KeepsUpTo}
use Rattle.spawn_rules.specs.inner.Hatching.{KeepsOthers}
use Rattle.spawn_rules.proofs.Turned.{hatched_waits, keeps_set, others_set, spawn_tile}
use Rattle.spawn_rules.proofs.hatching.hatch_at.Goals as goal

pub set-requires-clause-tile : goal.set-requires-clause-tile
set-requires-clause-tile c =
    let tile = spawn_tile c.args.room.now c.args.spawn.now c.requires.there c.requires.kind c.requires.ready in
    record { column = tile.column; row = tile.row }

pub returns-then-spawn-gt1-clause-rule : goal.returns-then-spawn-gt1-clause-rule
returns-then-spawn-gt1-clause-rule c =
    ap (table_part c.args.ground.now) c.set.ensures
    ∙ hatched_waits c.args.room.now c.args.spawn.now c.requires.there c.requires.kind c.requires.ready c.args.ground.now (lt-ltb 1 c.args.spawn.now.timer c.if-spawn-gt1.true)

pub returns-then-spawn-gt1-clause-keeps : goal.returns-then-spawn-gt1-clause-keeps
returns-then-spawn-gt1-clause-keeps c =
    let spawn = c.args.spawn.now in
    let tile = spawn_tile c.args.room.now spawn c.requires.there c.requires.kind c.requires.ready in
    subst (KeepsUpTo 1 c.args.room.now) (sym c.set.ensures) (keeps_set c.args.room.now spawn c.requires.there c.requires.kind c.requires.ready (record spawn { timer = spawn.timer - 1 }) (record { column = tile.column; row = tile.row }))

pub returns-then-spawn-gt1-clause-others : goal.returns-then-spawn-gt1-clause-others
returns-then-spawn-gt1-clause-others c =
    let spawn = c.args.spawn.now in
    let tile = spawn_tile c.args.room.now spawn c.requires.there c.requires.kind c.requires.ready in
    subst (KeepsOthers spawn.id c.args.room.now) (sym c.set.ensures) (others_set c.args.room.now spawn c.requires.there c.requires.kind c.requires.ready (record spawn { timer = spawn.timer - 1 }) refl (record { column = tile.column; row = tile.row }))
