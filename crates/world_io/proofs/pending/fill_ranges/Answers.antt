use Rattle.std.proofs.Common.{rules, ◌≡◌, length, get_or, refl}
use Rattle.world_io.proofs.Picks.{keeps_more, frees_more}
use Rattle.world_io.proofs.pending.fill_ranges.Goals as goal

pub loop-at-preserved : goal.loop-at-preserved
loop-at-preserved c =
    let ranges = c.args.ranges.now in
    let k = c.loop-at.at-index in
    let at = (get_or ranges k (0, 0)).0 in
    let count = (get_or ranges k (0, 0)).1 in
    let same : length c.fill_range.new.image ≡ length c.loop-at.image = search rules in
    record {
      inside = frees_more ranges k at count c.args.image.now c.loop-at.image c.fill_range.new.image
          c.loop-at-test.true refl c.fill_range.ensures.outside c.args.free same c.fill_range.ensures.inside
          c.loop-at.invariant.inside;
      outside = keeps_more ranges k at count c.args.image.now c.loop-at.image c.fill_range.new.image
          c.loop-at-test.true refl c.fill_range.ensures.outside c.loop-at.invariant.outside;
    }
