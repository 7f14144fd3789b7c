use Rattle.std.proofs.Common.{◌<◌, ◌≤◌, length, arith}
use Rattle.upkeep_rules.proofs.Gains.{all_filled, first_filled, next_filled}
use Rattle.upkeep_rules.proofs.filling.fill_spawns.Goals as goal

pub loop-place-init : goal.loop-place-init
loop-place-init c = first_filled c.args.room.now c.stands_in_order.ensures.rising c.requires.tiles

pub loop-place-preserved : goal.loop-place-preserved
loop-place-preserved c =
    let inside : c.loop-place.place < length c.loop-place.room.objects = omega (arith, c.loop-place-test.true, c.len.ensures) in
    next_filled c.args.room.now c.loop-place.place c.loop-place.known c.loop-place.room c.loop-place.invariant inside c.fill_at-known.ensures.rising c.fill_at-known.result c.fill_at-known.new.room c.fill_at-known.ensures.known c.fill_at-known.ensures.filled

pub returns-clause-rule : goal.returns-clause-rule
returns-clause-rule c =
    let past : length c.loop-place.room.objects ≤ c.loop-place.place = omega (arith, c.loop-place-test.false, c.len.ensures) in
    all_filled c.args.room.now c.loop-place.place c.loop-place.known c.loop-place.room c.loop-place.invariant past
