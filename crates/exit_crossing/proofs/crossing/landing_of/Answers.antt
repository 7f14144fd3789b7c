use Rattle.std.proofs.Common.{◌∙◌, Some, ap, sym}
use Rattle.exit_crossing.proofs.Landed.{within_mapped, to_name, walled, taken, lands_there, nothing_mapped}
use Rattle.std.specs.Option.{is_some}
use Rattle.std.proofs.lemmas.Bool.{both_ways}
use Rattle.exit_crossing.proofs.crossing.landing_of.Goals as goal
use Rattle.exit_crossing.proofs.crossing.landing_of.Goals.{then-is_wall-via-then-is_wall, then-is_wall-via-else-is_wall+then-is_some}

pub returns-in_default-clause-none : goal.returns-in_default-clause-none
returns-in_default-clause-none c at lands =
    let creep = c.in_ok-creep.creep.now in
    let stood = sym c.in_ok-creep.ensures in
    c.in_default.ensures.none lands.name at.x at.y (to_name c.args.world.now.rooms c.args.crosser c.room.result.now creep c.name.result c.room.ensures c.name.ensures stood at lands)

pub terrain-requires : goal.terrain-requires
terrain-requires c = within_mapped _ _ _ _ c.in_ok-room.ensures.some.0

pub room-requires-else-is_wall : goal.room-requires-else-is_wall
room-requires-else-is_wall c = within_mapped _ _ _ _ c.in_ok-room.ensures.some.0

pub returns-then-is_wall-clause-none : goal.returns-then-is_wall-clause-none
returns-then-is_wall-clause-none c at lands =
    let creep = c.in_ok-creep.creep.now in
    let stood = sym c.in_ok-creep.ensures in
    elim c.then-is_wall.branch [
      | then-is_wall-via-then-is_wall w ↦ walled c.args.world.now.rooms c.args.crosser c.room.result.now creep c.name.result c.room.ensures c.name.ensures stood c.in-Some.name c.in_ok-room.room c.in-Some.x c.in-Some.y c.terrain.result.now c.in-Some.ensures.some c.in_ok-room.ensures.some.0 c.in_ok-room.ensures.some.1 c.terrain.ensures (c.at.ensures ∙ ap Some (c.is_wall.ensures.0 w.if-is_wall.true)) at lands
      | then-is_wall-via-else-is_wall+then-is_some w ↦ taken c.args.world.now.rooms c.args.crosser c.room.result.now creep c.name.result c.room.ensures c.name.ensures stood c.in-Some.name c.in_ok-room.room c.in-Some.x c.in-Some.y w.room-else-is_wall.result.now c.in-Some.ensures.some c.in_ok-room.ensures.some.0 c.in_ok-room.ensures.some.1 w.room-else-is_wall.ensures (sym (ap is_some w.at-else-is_wall.ensures) ∙ sym w.is_some.ensures ∙ w.if-is_some.true) at lands
    ]

pub returns-clause-some : goal.returns-clause-some
returns-clause-some c =
    let creep = c.in_ok-creep.creep.now in
    let stood = sym c.in_ok-creep.ensures in
    lands_there c.args.world.now.rooms c.args.crosser c.room.result.now creep c.name.result c.room.ensures c.name.ensures stood (record { room = c.in_ok-room.room; x = c.in-Some.x; y = c.in-Some.y }) c.in-Some.name c.room-else-is_wall.result.now c.terrain.result.now c.at.result
    c.in-Some.ensures.some c.in_ok-room.ensures.some.0 c.in_ok-room.ensures.some.1 c.terrain.ensures c.at.ensures (λ same. both_ways c.is_wall.result c.if-is_wall.false (c.is_wall.ensures.1 same)) c.room-else-is_wall.ensures
    (nothing_mapped _ _ (sym (ap is_some c.at-else-is_wall.ensures) ∙ sym c.is_some.ensures ∙ c.if-is_some.false))
