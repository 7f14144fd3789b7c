use Rattle.std.proofs.Common.{take, arith}
use Rattle.std.proofs.lemmas.List.{length-take}
use Rattle.counted_record.specs.inner.Planned.{is_apart, is_beside}
use Rattle.counted_record.proofs.Counting.{length_filter}
use Rattle.counted_record.proofs.counted.count_elsewhere.Goals as goal

pub overflow_add-found : goal.overflow_add-found
overflow_add-found c =
    let seen = take c.loop-site.site-index c.args.planned.now in
    omega (arith, c.requires, c.loop-site.invariant.in_all, length_filter (is_apart c.args.tile) seen, length-take c.loop-site.site-index c.args.planned.now)

pub overflow_add-found-then-site-number : goal.overflow_add-found-then-site-number
overflow_add-found-then-site-number c =
    let seen = take c.loop-site.site-index c.args.planned.now in
    omega (arith, c.requires, c.loop-site.invariant.in_room, length_filter (is_beside c.args.tile c.args.number) seen, length-take c.loop-site.site-index c.args.planned.now)
