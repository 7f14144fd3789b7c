use Rattle.std.proofs.Common.{inl, inr, [], ◌∷◌, ◌++◌, List, sym, subst}
use Rattle.object_store.specs.Stored.{Stored}
use Rattle.judged_uploads.specs.Judging.{with_uploads}
use Rattle.upload_stream.specs.Streams.{Upload, uploads_at}
use Rattle.hosted_tick.specs.Hosting.{Held, IsHosted}
use Rattle.tick_journal.specs.declared.tick_record.TickRecord.{TickRecord}
use Rattle.world_io.specs.Moments.{LeavesSince}
use Rattle.world_journal.specs.Journals.{HasJournal, IsBeforeOrAfter}
use Rattle.world_rules.specs.Sound.{HaveSerials}
use Rattle.world_run.specs.declared.kept.Kept.{Kept}
use Rattle.world_run.specs.inner.Held.{IsKeptAt}
use Rattle.world_run.proofs.Recorded.{kept_one, may_follow}
use Rattle.world_run.proofs.ticks.record_tick.Goals as goal

pub returns-in-Ok-append-clause-added : goal.returns-in-Ok-append-clause-added
returns-in-Ok-append-clause-added g c =
    let made = c.in-Ok.ensures.step in
    let told = c.in-Ok.made.told in
    let next : Kept = record { hosted = c.in-Ok.made.hosted; recorder = c.make_tick.new.recorder; journal = c.append.new.journal } in
    let whole = with_uploads told.uploads told.entry in
    record {
      step = made.0;
      after = made.1;
      is = made.3;
      serials = subst (λ (w : Stored). HaveSerials w.rooms) c.world.ensures c.in_default.ensures.none;
      results = made.5;
      said = made.4;
      keeps = λ base entries start. subst (λ (r : TickRecord). IsKeptAt base (entries ++ r ∷ []) next (g.D.Disk.seen c.append.new.disk) (g.D.Disk.moments c.append.new.disk)) (sym made.2)
          (kept_one base entries c.args.kept whole _ _ start c.in-Ok.ensures.follows c.in-Ok.made.hosted c.make_tick.new.recorder c.append.new.journal _ _ c.append.ensures.alike (c.in-Ok-append.ensures.recorded base entries) c.in-Ok.ensures.leads c.in-Ok.ensures.modules c.in-Ok.ensures.hosted c.in-Ok.ensures.few c.in-Ok.ensures.recorder c.in-Ok-append.ensures.log c.in-Ok-append.ensures.is_open);
      each = λ base entries start has. subst (λ (r : TickRecord). LeavesSince (IsBeforeOrAfter base entries r) (g.D.Disk.moments c.args.disk.now) (g.D.Disk.moments c.append.new.disk)) (sym made.2)
          (c.append.ensures.each_moment base entries has (may_follow base entries c.args.kept whole _ _ start c.in-Ok.ensures.follows));
      has = λ base entries start has. subst (λ (r : TickRecord). HasJournal base (entries ++ r ∷ []) c.append.new.journal.log.gate (g.D.Disk.seen c.append.new.disk) (g.D.Disk.moments c.append.new.disk)) (sym made.2)
          (c.in-Ok-append.ensures.recorded base entries has (may_follow base entries c.args.kept whole _ _ start c.in-Ok.ensures.follows));
    }

pub returns-clause-lost : goal.returns-clause-lost
returns-clause-lost g c =
    let made = c.in-Ok.ensures.step in
    let told = c.in-Ok.made.told in
    inr (record {
      step = made.0;
      is = made.3;
      serials = subst (λ (w : Stored). HaveSerials w.rooms) c.world.ensures c.in_default.ensures.none;
      hosted = subst (λ (held : Held). IsHosted held.world) (sym made.1) c.in-Ok.ensures.hosted;
      each = λ base entries start has. subst (λ (r : TickRecord). LeavesSince (IsBeforeOrAfter base entries r) (g.D.Disk.moments c.args.disk.now) (g.D.Disk.moments c.append.new.disk)) (sym made.2)
          (c.append.ensures.each_moment base entries has (may_follow base entries c.args.kept (with_uploads told.uploads told.entry) _ _ start c.in-Ok.ensures.follows));
    })
