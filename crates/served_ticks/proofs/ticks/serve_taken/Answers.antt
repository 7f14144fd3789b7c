use Rattle.std.proofs.Common.{◌≡◌, ◌++◌, [], ◌∷◌, List, length, map, inl, inr, ap, refl, subst, sym, ◌∙◌, arith}
use Rattle.object_store.specs.Stored.{Stored}
use Rattle.tick_journal.specs.declared.tick_record.TickRecord.{TickRecord}
use Rattle.world_journal.specs.Recovering.{count_of}
use Rattle.world_run.specs.inner.Held.{IsKeptAt}
use Rattle.served_ticks.specs.Summaries.{IsSummaryOf}
use Rattle.served_ticks.specs.inner.OneTick.{HasCounts}
use Rattle.served_ticks.proofs.Tallies.{counts_one}
use Rattle.served_ticks.proofs.Handed.{uploads_in}
use Rattle.served_ticks.proofs.Steps.{recorded_uploads}
use Rattle.served_ticks.proofs.ticks.serve_taken.Goals as goal

pub tell_tick-requires-clause-few : goal.tell_tick-requires-clause-few
tell_tick-requires-clause-few g c =
    let few = c.in-Ok.ensures.hosted.players in
    let many : length c.world.result.now.accounts ≡ length c.in-Ok.done.kept.hosted.world.accounts = ap (λ (w : Stored). length w.accounts) c.world.ensures in
    omega (arith, few, many)

pub returns-in-Ok-tell_tick-clause-once : goal.returns-in-Ok-tell_tick-clause-once
returns-in-Ok-tell_tick-clause-once g c =
    let added = c.in-Ok.ensures.added in
    let told = c.in-Ok-tell_tick.ensures.told in
    let counts = λ (base : Stored) (entries : List TickRecord) (at : IsKeptAt base entries c.args.served.kept (g.D.Disk.seen c.args.disk.now) (g.D.Disk.moments c.args.disk.now)) (has : HasCounts entries c.args.served). counts_one base entries added.step.recorded c.args.served.kept c.in-Ok.done.kept c.in-Ok-tell_tick.counts.items c.in-Ok.done.uploads at.at_end (added.keeps base entries at).at_end
    (recorded_uploads _ _ _ _ _ _ _ _ _ added c.requires.uploads) (c.in-Ok-tell_tick.ensures.counted c.args.served.kept.hosted.world.accounts (uploads_in entries) has) in
    record {
      judged = c.in-Ok.done.uploads;
      lines = c.in-Ok.done.lines.items;
      added = added;
      counts = counts;
      summary = told.0;
      told = told.1;
      is = λ base entries at has. subst (λ (w : Stored). IsSummaryOf (entries ++ added.step.recorded ∷ []) w told.0) c.world.ensures
          (told.2 (entries ++ added.step.recorded ∷ []) (counts base entries at has ∙ ap (λ (w : Stored). map (count_of (entries ++ added.step.recorded ∷ [])) w.accounts) (sym c.world.ensures)));
    }

pub returns-in-Err-clause-stopped : goal.returns-in-Err-clause-stopped
returns-in-Err-clause-stopped g c = record {
  told = refl;
  fate = inr (record { same = c.in-Err.ensures.same; lost = c.in-Err.ensures.lost; exhausted = c.in-Err.ensures.exhausted });
}

pub returns-clause-stopped : goal.returns-clause-stopped
returns-clause-stopped g c = record {
  told = c.in-Err-tell_tick.ensures.untold;
  fate = inl (record {
    memory = refl;
    next = c.in-Ok.done.kept;
    judged = c.in-Ok.done.uploads;
    lines = c.in-Ok.done.lines.items;
    added = c.in-Ok.ensures.added;
    hosted = c.in-Ok.ensures.hosted;
    log = c.in-Ok.ensures.log;
  });
}
