use Rattle.std.proofs.Common.{◌<◌, ◌≤◌, length, ap, ◌∙◌, arith}
use Rattle.world_rules.specs.RoomParts.{table_part}
use Rattle.upkeep_rules.proofs.Parts.{passed_part}
use Rattle.upkeep_rules.proofs.Passing.{pass_first, pass_last, pass_less, pass_more}
use Rattle.upkeep_rules.proofs.pass.pass.Goals as goal

pub loop-place-init : goal.loop-place-init
loop-place-init c = pass_first c.args.step c.args.room.now c.requires.tiles

pub loop-place-smaller-then-is_left : goal.loop-place-smaller-then-is_left
loop-place-smaller-then-is_left c =
    let inside : c.loop-place.place < length c.loop-place.room.objects = omega arith in
    (pass_more c.args.step c.args.room.now c.loop-place.place c.loop-place.room c.loop-place.invariant c.is_left.new.room c.is_left.result c.is_left.ensures.tiles c.is_left.ensures.left c.is_left.ensures.table inside c.if-is_left.true).1

pub loop-place-preserved-then-is_left : goal.loop-place-preserved-then-is_left
loop-place-preserved-then-is_left c =
    let inside : c.loop-place.place < length c.loop-place.room.objects = omega arith in
    (pass_more c.args.step c.args.room.now c.loop-place.place c.loop-place.room c.loop-place.invariant c.is_left.new.room c.is_left.result c.is_left.ensures.tiles c.is_left.ensures.left c.is_left.ensures.table inside c.if-is_left.true).0

pub loop-place-smaller : goal.loop-place-smaller
loop-place-smaller c =
    let inside : c.loop-place.place < length c.loop-place.room.objects = omega arith in
    (pass_less c.args.step c.args.room.now c.loop-place.place c.loop-place.room c.loop-place.invariant c.is_left.new.room c.is_left.result c.is_left.ensures.tiles c.is_left.ensures.left c.is_left.ensures.table inside c.if-is_left.false).1

pub loop-place-preserved : goal.loop-place-preserved
loop-place-preserved c =
    let inside : c.loop-place.place < length c.loop-place.room.objects = omega arith in
    (pass_less c.args.step c.args.room.now c.loop-place.place c.loop-place.room c.loop-place.invariant c.is_left.new.room c.is_left.result c.is_left.ensures.tiles c.is_left.ensures.left c.is_left.ensures.table inside c.if-is_left.false).0

pub returns-clause-rule : goal.returns-clause-rule
returns-clause-rule c grounds =
    let past : length c.loop-place.room.objects ≤ c.loop-place.place = omega (arith, c.loop-place-test.false, c.len.ensures) in
    ap (table_part grounds) (pass_last c.args.step c.args.room.now c.loop-place.place c.loop-place.room c.loop-place.invariant past)
    ∙ passed_part c.args.step c.loop-place.room.tallies grounds c.args.room.now c.stands_in_order.ensures.rising
