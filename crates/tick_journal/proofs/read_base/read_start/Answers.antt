use Rattle.std.proofs.Common.{rules, ◌≡◌, ◌<◌, ◌^◌, true, false, arith}
use Rattle.tick_journal.proofs.BaseContents.{start_mark, start_tick}
use Rattle.tick_journal.proofs.read_base.read_start.Goals as goal

pub returns-then-ne-clause-malformed : goal.returns-then-ne-clause-malformed
returns-then-ne-clause-malformed c = λ _ tick rest fits e.
    let same = start_mark tick c.args.from.now.0 c.in_ok-mark.mark.now c.take.new.self.0 rest c.in_ok-mark.ensures.found c.in_ok-mark.ensures.count e in
    let no : true ≡ false = rw (same, c.as_slice.ensures) at c.if-ne.ensures in
    cc

pub returns-then-tick-gt-MOST_TICK-clause-malformed : goal.returns-then-tick-gt-MOST_TICK-clause-malformed
returns-then-tick-gt-MOST_TICK-clause-malformed c = λ _ tick rest fits e.
    let most : tick < 2 ^ 64 = omega arith in
    let same = start_tick tick c.in_ok-version.version c.in_ok-tick.tick c.args.from.now.0 c.in_ok-mark.mark.now c.take.new.self.0 c.u32.new.self.0 c.u64.new.self.0 rest most (search rules) (search rules)
    c.in_ok-mark.ensures.found c.in_ok-mark.ensures.count c.in_ok-version.ensures.found c.in_ok-tick.ensures.found e in
    omega (arith, same, fits, c.if-tick-gt-MOST_TICK.true)
