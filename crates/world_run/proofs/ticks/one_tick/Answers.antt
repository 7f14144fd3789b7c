use Rattle.std.proofs.Common.{◌≡◌, ◌≢◌, inl, inr, [], ◌∷◌, ◌++◌, List, ℕ, IfSome, ap, refl, subst, sym, ◌∙◌}
use Rattle.run_status.specs.declared.status.Status.{Status}
use Rattle.run_status.specs.declared.status.Status.TheVariants as statuses
use Rattle.std.specs.List.{flat_map}
use Rattle.std.specs.Io.KnownBytes.{Appends}
use Rattle.object_store.specs.Stored.{Stored}
use Rattle.upload_stream.specs.Streams.{Upload, uploads_at}
use Rattle.hosted_tick.specs.Hosting.{Held, IsHosted}
use Rattle.tick_journal.specs.declared.entries.UploadEntry.{UploadEntry}
use Rattle.tick_journal.specs.declared.tick_record.TickRecord.{TickRecord}
use Rattle.world_io.specs.Moments.{LeavesNow}
use Rattle.world_io.specs.Told.{AppendsPrefix}
use Rattle.world_journal.specs.Journals.{HasJournal, IsJournal, IsWholeJournal}
use Rattle.run_lines.specs.Lines.{upload_line}
use Rattle.world_run.specs.inner.Held.{Step, step_lines}
use Rattle.world_run.proofs.RunsLists.{whole_of}
use Rattle.world_run.proofs.Crashes.{now_has}
use Rattle.world_run.proofs.ticks.one_tick.Goals as goal

-- the uploads that were taken are those of the tick
of_tick : (one other tick : ℕ) (uploads taken : List Upload) → one ≡ other → other ≡ tick → taken ≡ uploads_at one uploads → taken ≡ uploads_at tick uploads
of_tick one other tick uploads taken first second is = is ∙ ap (λ (n : ℕ). uploads_at n uploads) (first ∙ second)

-- the lines that were handed on
handed : (step : Step) (judged : List UploadEntry) (lines given : List ℕ) → step_lines step ≡ flat_map upload_line judged ++ lines → given ≡ lines → flat_map upload_line judged ++ given ≡ step_lines step
handed step judged lines given said same = ap (λ (l : List ℕ). flat_map upload_line judged ++ l) same ∙ sym said

pub returns-in-Ok-print_lines-clause-step : goal.returns-in-Ok-print_lines-clause-step
returns-in-Ok-print_lines-clause-step g c =
    let added = c.in-Ok.ensures.added in
    let taken = of_tick _ _ c.args.kept.hosted.world.tick c.args.stream.now _ c.tick.ensures (ap (λ (w : Stored). w.tick) c.world.ensures) c.take_tick-uploads.ensures.taken in (
      added.step,
      added.after,
      added.is c.args.stream.now taken,
      added.serials,
      subst (λ (b : List ℕ). Appends (g.O.Sink.written c.args.out.now) (g.O.Sink.written c.print_lines.new.out) b) (handed added.step c.in-Ok.done.uploads c.in-Ok.done.lines.items c.deref.result.now added.said c.deref.ensures.value) c.in-Ok-print_lines.ensures.whole,
      added.keeps,
      added.each,
      added.has,
    )

pub returns-in-Err-clause-cut : goal.returns-in-Err-clause-cut
returns-in-Err-clause-cut g c =
    let taken = of_tick _ _ c.args.kept.hosted.world.tick c.args.stream.now _ c.tick.ensures (ap (λ (w : Stored). w.tick) c.world.ensures) c.take_tick-uploads.ensures.taken in
    elim c.in-Err.ensures.lost [
      | inl same ↦ inl (same, refl)
      | inr lost ↦ inr (record {
        step = lost.step;
        serials = lost.serials;
        is = lost.is c.args.stream.now taken;
        hosted = lost.hosted;
        each = lost.each;
        printed = inl refl;
      })
    ]

pub returns-in-Err-print_lines-clause-cut : goal.returns-in-Err-print_lines-clause-cut
returns-in-Err-print_lines-clause-cut g c =
    let added = c.in-Ok.ensures.added in
    let taken = of_tick _ _ c.args.kept.hosted.world.tick c.args.stream.now _ c.tick.ensures (ap (λ (w : Stored). w.tick) c.world.ensures) c.take_tick-uploads.ensures.taken in
    inr (record {
      step = added.step;
      serials = added.serials;
      is = added.is c.args.stream.now taken;
      hosted = subst (λ (held : Held). IsHosted held.world) (sym added.after) c.in-Ok.ensures.hosted;
      each = added.each;
      printed = inr (
        subst (λ (b : List ℕ). AppendsPrefix (g.O.Sink.written c.args.out.now) (g.O.Sink.written c.print_lines.new.out) b) (handed added.step c.in-Ok.done.uploads c.in-Ok.done.lines.items c.deref.result.now added.said c.deref.ensures.value) c.in-Err-print_lines.ensures.cut,
        λ base entries start has. now_has base _ _ _ _ (added.has base entries start has),
      );
    })

pub returns-in-Err-print_lines-clause-write_stopped : goal.returns-in-Err-print_lines-clause-write_stopped
returns-in-Err-print_lines-clause-write_stopped g c = λ stopped.
    let added = c.in-Ok.ensures.added in
    let taken = of_tick _ _ c.args.kept.hosted.world.tick c.args.stream.now _ c.tick.ensures (ap (λ (w : Stored). w.tick) c.world.ensures) c.take_tick-uploads.ensures.taken in (
      added.step,
      added.is c.args.stream.now taken,
      added.serials,
      subst (λ (held : Held). IsHosted held.world) (sym added.after) c.in-Ok.ensures.hosted,
      subst (λ (b : List ℕ). AppendsPrefix (g.O.Sink.written c.args.out.now) (g.O.Sink.written c.print_lines.new.out) b) (handed added.step c.in-Ok.done.uploads c.in-Ok.done.lines.items c.deref.result.now added.said c.deref.ensures.value) c.in-Err-print_lines.ensures.cut,
      λ base entries start. whole_of base _ _ _ _ (added.keeps base entries start).journal,
    )

not_fault : (status : Status) (index : ℕ) → status ≡ statuses.IdsExhausted index → status ≢ statuses.DiskFault
not_fault status index is = λ other. cc

pub returns-in-Err-clause-exhausted : goal.returns-in-Err-clause-exhausted
returns-in-Err-clause-exhausted g c = λ index is.
    let stop = c.in-Err.ensures in
    (stop.exhausted index is, (stop.same (not_fault _ index is)).0, refl)
