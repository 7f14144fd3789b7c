use Rattle.std.proofs.Common.{◌≤◌, ◌^◌, ◌+◌, arith}
use Rattle.creep_combat.proofs.Tiles.{found_late, found_stands, found_within, tile_ended, tile_filled, tile_struck}
use Rattle.creep_combat.proofs.mass.strike_tile.Goals as goal

pub strike-requires : goal.strike-requires
strike-requires c =
    let table = c.args.room.now in
    found_stands c.args.x c.args.y c.loop-object.from c.args.creep.now table c.loop-object.room c.stands_in_order.ensures.rising c.loop-object.invariant c.in-Some.object.now c.in-Some.ensures

pub returns-then-id : goal.returns-then-id
returns-then-id c =
    let table = c.args.room.now in
    let greatest : 2 ^ 64 ≤ c.in-Some.object.now.id + 1 = omega arith in
    tile_filled c.args.x c.args.y c.loop-object.from c.args.creep.now table c.loop-object.room c.stands_in_order.ensures.rising c.loop-object.invariant c.in-Some.object.now c.in-Some.ensures c.strike.new.room c.mass_damage-damage.result c.mass_damage-damage.ensures c.strike.ensures c.requires.ids greatest

pub overflow_add-from : goal.overflow_add-from
overflow_add-from c =
    let within = found_within c.args.x c.args.y c.loop-object.from c.args.creep.now c.args.room.now c.loop-object.room c.stands_in_order.ensures.rising c.loop-object.invariant c.in-Some.object.now c.in-Some.ensures c.requires.ids in
    omega (arith, within)

pub loop-object-smaller : goal.loop-object-smaller
loop-object-smaller c =
    let table = c.args.room.now in
    let rising = c.stands_in_order.ensures.rising in
    let later = found_late c.args.x c.args.y c.loop-object.from c.args.creep.now table c.loop-object.room rising c.loop-object.invariant c.in-Some.object.now c.in-Some.ensures in
    let within = found_within c.args.x c.args.y c.loop-object.from c.args.creep.now table c.loop-object.room rising c.loop-object.invariant c.in-Some.object.now c.in-Some.ensures c.requires.ids in
    omega (arith, later, within)

pub loop-object-preserved : goal.loop-object-preserved
loop-object-preserved c =
    let table = c.args.room.now in
    tile_struck c.args.x c.args.y c.loop-object.from c.args.creep.now table c.loop-object.room c.stands_in_order.ensures.rising c.loop-object.invariant c.in-Some.object.now c.in-Some.ensures c.strike.new.room c.mass_damage-damage.result c.mass_damage-damage.ensures c.strike.ensures

pub returns : goal.returns
returns c =
    let table = c.args.room.now in
    tile_ended c.args.x c.args.y c.loop-object.from c.args.creep.now table c.loop-object.room c.stands_in_order.ensures.rising c.loop-object.invariant c.in_default.ensures
