use Rattle.std.proofs.Common.{subst, sym, ◌∙◌, ap, arith}
use Rattle.world_run.specs.inner.Held.{IsKeptAt}
use Rattle.world_hub.specs.Hub.{ticker_hand_of, ticker_sight}
use Rattle.world_journal.specs.declared.journal.Journal.{Journal}
use Rattle.served_ticks.specs.Serving.{Around, Serves}
use Rattle.served_ticks.proofs.Serves.{nothing_served}
use Rattle.served_ticks.proofs.Tallies.{counts_there}
use Rattle.served_ticks.proofs.ticks.serve_by.Goals as goal

pub serve_all-requires-clause-served : goal.serve_all-requires-clause-served
serve_all-requires-clause-served g c =
    let found = c.requires.found in
    let at = c.in-Ok.ensures.at_end found.0 found.1 in
    record {
      hosted = at.hosted;
      few = at.few;
      recorder = c.in-Ok.ensures.recorder;
      is_open = ap (λ (j : Journal). j.log.is_closed) c.in-Ok.ensures.journal ∙ c.requires.is_open;
      log = subst (λ (j : Journal). Rattle.frame_log.specs.Frames.IsLog j.log.gate (g.D.Disk.seen c.args.disk.now) (g.D.Disk.moments c.args.disk.now)) (sym c.in-Ok.ensures.journal) c.requires.log;
    }

pub serve_all-requires-clause-tick : goal.serve_all-requires-clause-tick
serve_all-requires-clause-tick g c =
    let early = c.in-Ok.ensures.tick in
    let few = c.requires.ticks in
    omega (arith, early, few)

pub returns-clause-serves : goal.returns-clause-serves
returns-clause-serves g c = λ entries recovered journal.
    let at = c.in-Ok.ensures.at_end entries recovered in
    let same = c.in-Ok.ensures.journal in
    let kept : IsKeptAt c.args.from.base entries c.in-Ok.resumed.kept (g.D.Disk.seen c.args.disk.now) (g.D.Disk.moments c.args.disk.now) = record {
      at_end = at;
      recorder = c.in-Ok.ensures.recorder;
      journal = subst (λ (j : Journal). Rattle.std.specs.Option.IfSome (g.D.Disk.seen c.args.disk.now) (λ bytes. Rattle.world_journal.specs.Journals.HasJournal c.args.from.base entries j.log.gate (g.D.Disk.seen c.args.disk.now) (g.D.Disk.moments c.args.disk.now))) (sym same) journal;
      log = subst (λ (j : Journal). Rattle.frame_log.specs.Frames.IsLog j.log.gate (g.D.Disk.seen c.args.disk.now) (g.D.Disk.moments c.args.disk.now)) (sym same) c.requires.log;
      is_open = ap (λ (j : Journal). j.log.is_closed) same ∙ c.requires.is_open;
    } in
    let old : Around = record {
      disk = g.D.Disk.seen c.args.disk.now;
      moments = g.D.Disk.moments c.args.disk.now;
      faults = g.D.Disk.faults c.args.disk.now;
      hand = ticker_hand_of c.args.ticker.now;
      sight = ticker_sight c.args.ticker.now;
    } in
    let new : Around = record {
      disk = g.D.Disk.seen c.serve_all.new.disk;
      moments = g.D.Disk.moments c.serve_all.new.disk;
      faults = g.D.Disk.faults c.serve_all.new.disk;
      hand = ticker_hand_of c.serve_all.new.ticker;
      sight = ticker_sight c.serve_all.new.ticker;
    } in
    let counts = counts_there c.args.from.base entries c.in-Ok.resumed.kept c.into_vec.result.items at (c.into_vec.ensures ∙ (c.in-Ok.ensures.uploads ∙ recovered.uploads)) in
    subst (λ (j : Journal). Serves c.args.from.base entries j.log.gate c.args.ticks old new c.serve_all.result) same (c.serve_all.ensures.serves c.args.from.base entries kept counts)

pub returns-in_default-clause-serves : goal.returns-in_default-clause-serves
returns-in_default-clause-serves g c = λ entries recovered journal.
    nothing_served c.args.from.base entries c.args.from.journal.log.gate c.args.ticks _ journal c.requires.log
