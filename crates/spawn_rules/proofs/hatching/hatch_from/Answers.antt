use Rattle.std.proofs.Common.{sym, ◌∙◌}
use Rattle.spawn_rules.proofs.Hatched.{found_above, hatched_none, hatched_past, hatched_turn, later_id, object_there, ready_one, spawn_kind}
use Rattle.spawn_rules.proofs.hatching.hatch_from.Goals as goal

pub returns-in_default-clause-turn : goal.returns-in_default-clause-turn
returns-in_default-clause-turn c =
    hatched_none c.args.ground.now c.args.from c.args.room.now c.stands_in_order.ensures.rising c.requires.ready c.requires.ids (sym c.in_default.ensures)

pub returns-then-not-is_spawn-clause-turn : goal.returns-then-not-is_spawn-clause-turn
returns-then-not-is_spawn-clause-turn c =
    hatched_past c.args.ground.now c.args.from c.args.room.now c.stands_in_order.ensures.rising c.requires.ready c.requires.ids c.in-Some.object.now (sym c.in-Some.ensures) c.checked_add-next.result c.checked_add-next.ensures (sym c.is_spawn.ensures ∙ c.if-not-is_spawn.true)

pub returns-then-not-is_spawn-clause-later : goal.returns-then-not-is_spawn-clause-later
returns-then-not-is_spawn-clause-later c =
    later_id c.args.from c.in-Some.object.now.id c.checked_add-next.result (found_above c.args.from c.args.room.now.objects c.in-Some.object.now (sym c.in-Some.ensures)) c.checked_add-next.ensures

pub hatch_at-requires-clause-there : goal.hatch_at-requires-clause-there
hatch_at-requires-clause-there c =
    object_there c.args.ground.now c.args.from c.args.room.now c.stands_in_order.ensures.rising c.requires.ready c.requires.ids c.in-Some.object.now (sym c.in-Some.ensures) c.checked_add-next.result c.checked_add-next.ensures

pub hatch_at-requires-clause-kind : goal.hatch_at-requires-clause-kind
hatch_at-requires-clause-kind c = spawn_kind c.in-Some.object.now.kind (sym c.is_spawn.ensures ∙ c.if-not-is_spawn.false)

pub hatch_at-requires-clause-ready : goal.hatch_at-requires-clause-ready
hatch_at-requires-clause-ready c =
    ready_one c.args.ground.now c.args.from c.args.room.now c.stands_in_order.ensures.rising c.requires.ready c.requires.ids c.in-Some.object.now (sym c.in-Some.ensures) c.checked_add-next.result c.checked_add-next.ensures (spawn_kind c.in-Some.object.now.kind (sym c.is_spawn.ensures ∙ c.if-not-is_spawn.false))

pub returns-clause-turn : goal.returns-clause-turn
returns-clause-turn c =
    hatched_turn c.args.ground.now c.args.from c.args.room.now c.stands_in_order.ensures.rising c.requires.ready c.requires.ids c.in-Some.object.now (sym c.in-Some.ensures) c.checked_add-next.result c.checked_add-next.ensures (spawn_kind c.in-Some.object.now.kind (sym c.is_spawn.ensures ∙ c.if-not-is_spawn.false)) c.hatch_at.new.room c.hatch_at.ensures.rule c.hatch_at.ensures.keeps c.hatch_at.ensures.others

pub returns-clause-later : goal.returns-clause-later
returns-clause-later c =
    later_id c.args.from c.in-Some.object.now.id c.checked_add-next.result (found_above c.args.from c.args.room.now.objects c.in-Some.object.now (sym c.in-Some.ensures)) c.checked_add-next.ensures
