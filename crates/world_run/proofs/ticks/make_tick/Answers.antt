use Rattle.std.proofs.Common.{◌≡◌, ◌∙◌, [], ◌++◌, ℕ, List, length, ap, append_assoc, refl, subst, sym}
use Rattle.std.specs.FinMap.{empty}
use Rattle.std.specs.List.{AllByRecursion, flat_map}
use Rattle.intent_book.specs.declared.player_run.PlayerRun.{PlayerRun}
use Rattle.object_store.specs.Stored.{Stored}
use Rattle.tick_journal.specs.TickForms.{tick_as_read}
use Rattle.tick_journal.specs.declared.entries.UploadEntry.{UploadEntry}
use Rattle.tick_journal.specs.declared.tick_record.TickRecord.{TickRecord}
use Rattle.upload_stream.specs.Streams.{Upload, uploads_at}
use Rattle.judged_uploads.specs.Judging.{with_uploads}
use Rattle.run_lines.specs.Lines.{run_line, tick_line, upload_line}
use Rattle.world_rules.specs.Tick.{intents_of}
use Rattle.world_rules.specs.World.{world_of}
use Rattle.hosted_tick.specs.Hosting.{state_of}
use Rattle.hosted_tick.specs.Next.{Modules, Next}
use Rattle.record_follows.specs.Follows.{Follows, IsAdmitted}
use Rattle.record_follows.specs.Courses.{modules_with}
use Rattle.recorded_tick.specs.Recording.{HaveAsMany, IsRecordOf}
use Rattle.world_run.specs.inner.Held.{IsStep, Step, step_lines}
use Rattle.world_run.proofs.Uploaded.{judged_modules, modules_more, record_read}
use Rattle.world_run.proofs.ticks.make_tick.Goals as goal

-- what is recorded of the tick, with its uploads, of the worlds that it was made of
recorded : (before after shown : Stored) (uploads : List UploadEntry) (runs : List PlayerRun) (entry : TickRecord) → shown ≡ after → IsRecordOf before shown [] runs entry → IsRecordOf before after uploads runs (with_uploads uploads entry)
recorded before after shown uploads runs entry same is =
    let own = subst (λ (w : Stored). IsRecordOf before w [] runs entry) same is in
    record { tick = own.tick; uploads_are = refl; runs_are = own.runs_are; accounts = own.accounts; rooms = own.rooms }

-- it is told of no uploads
without : (before shown : Stored) (none : List UploadEntry) (runs : List PlayerRun) (entry : TickRecord) → none ≡ [] → IsRecordOf before shown none runs entry → IsRecordOf before shown [] runs entry
without before shown none runs entry same is = subst (λ (uploads : List UploadEntry). IsRecordOf before shown uploads runs entry) same is

-- A record without uploads follows where it follows with them.
follows_without : (before : Stored) (uploads : List UploadEntry) (entry : TickRecord) → entry.uploads ≡ [] → Follows before (tick_as_read (with_uploads uploads entry)) → Follows before (tick_as_read entry)
follows_without before uploads entry none is = record {
  tick = is.tick;
  rooms = is.rooms;
  runs = is.runs;
  accounts = is.accounts;
  rules = is.rules;
  uploads = subst (AllByRecursion (IsAdmitted before)) (sym none) tt;
}

pub record-requires : goal.record-requires
record-requires g c =
    let done = c.in_ok-done.done in
    let many = c.records_may_stand.ensures.as_many c.args.hosted done.hosted c.args.uploads done.uploads done.runs.items c.requires.hosted c.in_ok-done.ensures.hosted c.in_ok-done.ensures.next in
    (c.args.hosted.world, c.requires.recorder, subst (HaveAsMany c.args.hosted.world) (sym c.world-2.ensures) many)

pub lead-requires : goal.lead-requires
lead-requires g c =
    let done = c.in_ok-done.done in
    let entry = c.in_ok-entry.entry in
    let whole = with_uploads done.uploads entry in
    let is = recorded c.args.hosted.world done.hosted.world c.world-2.result.now done.uploads done.runs.items entry c.world-2.ensures (without c.args.hosted.world c.world-2.result.now c.new.result.items done.runs.items entry c.new.ensures.items (c.in_ok-entry.ensures c.args.hosted.world c.requires.recorder)) in
    let may = c.records_may_stand.ensures.stands c.args.hosted done.hosted c.args.uploads done.uploads done.runs.items whole c.requires.hosted c.requires.few c.in_ok-done.ensures.hosted c.in_ok-done.ensures.next is in
    let none : entry.uploads ≡ [] = (c.in_ok-entry.ensures c.args.hosted.world c.requires.recorder).uploads_are ∙ c.new.ensures.items in
    (c.args.hosted.world, c.requires.recorder, follows_without _ done.uploads entry none may.follows)

pub returns-clause-step : goal.returns-clause-step
returns-clause-step g c =
    let done = c.in_ok-done.done in
    let entry = c.in_ok-entry.entry in
    let whole = with_uploads done.uploads entry in
    let step : Step = record { uploads = done.uploads; runs = done.runs.items; after = done.hosted; recorded = tick_as_read whole } in
    let own = recorded c.args.hosted.world done.hosted.world c.world-2.result.now done.uploads done.runs.items entry c.world-2.ensures (without c.args.hosted.world c.world-2.result.now c.new.result.items done.runs.items entry c.new.ensures.items (c.in_ok-entry.ensures c.args.hosted.world c.requires.recorder)) in
    let is : (stream : List Upload) → c.args.uploads ≡ uploads_at c.args.hosted.world.tick stream → IsStep stream c.args.hosted step = λ stream same. record {
      made = subst (λ (list : List Upload). Next (state_of c.args.hosted) list step.uploads step.runs (state_of step.after)) same c.in_ok-done.ensures.next;
      recorded = record_read c.args.hosted.world done.hosted.world done.uploads done.runs.items whole own;
    } in
    let later : c.in_ok-lines.lines.items ≡ flat_map run_line done.runs.items ++ tick_line done.hosted.world (length (intents_of done.runs.items)) =
    rw (c.deref.ensures.value, c.world.ensures) at c.in_ok-lines.ensures in
    let lines : step_lines step ≡ flat_map upload_line done.uploads ++ c.in_ok-lines.lines.items =
    append_assoc (flat_map upload_line done.uploads) (flat_map run_line done.runs.items) _ ∙ ap (λ (z : List ℕ). flat_map upload_line done.uploads ++ z) (sym later) in
    (step, refl, refl, is, lines, refl)

pub returns-clause-few : goal.returns-clause-few
returns-clause-few g c =
    let done = c.in_ok-done.done in
    c.ticks_keep_the_limit_of_sites.ensures c.args.hosted done.hosted c.args.uploads done.uploads done.runs.items c.requires.hosted.sound c.in_ok-done.ensures.hosted.sound c.in_ok-done.ensures.next c.requires.few

pub returns-clause-follows : goal.returns-clause-follows
returns-clause-follows g c =
    let done = c.in_ok-done.done in
    let entry = c.in_ok-entry.entry in
    let whole = with_uploads done.uploads entry in
    c.records_may_stand.ensures.stands c.args.hosted done.hosted c.args.uploads done.uploads done.runs.items whole c.requires.hosted c.requires.few c.in_ok-done.ensures.hosted c.in_ok-done.ensures.next
    (recorded c.args.hosted.world done.hosted.world c.world-2.result.now done.uploads done.runs.items entry c.world-2.ensures (without c.args.hosted.world c.world-2.result.now c.new.result.items done.runs.items entry c.new.ensures.items (c.in_ok-entry.ensures c.args.hosted.world c.requires.recorder)))

pub returns-clause-leads : goal.returns-clause-leads
returns-clause-leads g c =
    let done = c.in_ok-done.done in
    let entry = c.in_ok-entry.entry in
    let whole = with_uploads done.uploads entry in
    c.records_may_stand.ensures.leads c.args.hosted done.hosted c.args.uploads done.uploads done.runs.items whole c.requires.hosted c.requires.few c.in_ok-done.ensures.hosted c.in_ok-done.ensures.next
    (recorded c.args.hosted.world done.hosted.world c.world-2.result.now done.uploads done.runs.items entry c.world-2.ensures (without c.args.hosted.world c.world-2.result.now c.new.result.items done.runs.items entry c.new.ensures.items (c.in_ok-entry.ensures c.args.hosted.world c.requires.recorder)))

pub returns-clause-recorder : goal.returns-clause-recorder
returns-clause-recorder g c =
    let done = c.in_ok-done.done in
    let entry = c.in_ok-entry.entry in
    let whole = with_uploads done.uploads entry in
    c.in_ok-lead.ensures c.args.hosted.world c.requires.recorder
    ∙ c.records_may_stand.ensures.leads c.args.hosted done.hosted c.args.uploads done.uploads done.runs.items whole c.requires.hosted c.requires.few c.in_ok-done.ensures.hosted c.in_ok-done.ensures.next
    (recorded c.args.hosted.world done.hosted.world c.world-2.result.now done.uploads done.runs.items entry c.world-2.ensures (without c.args.hosted.world c.world-2.result.now c.new.result.items done.runs.items entry c.new.ensures.items (c.in_ok-entry.ensures c.args.hosted.world c.requires.recorder)))

pub returns-clause-none : goal.returns-clause-none
returns-clause-none g c = (c.in_ok-entry.ensures c.args.hosted.world c.requires.recorder).uploads_are ∙ c.new.ensures.items

pub returns-clause-modules : goal.returns-clause-modules
returns-clause-modules g c = λ entries start.
    let done = c.in_ok-done.done in
    let whole = tick_as_read (with_uploads done.uploads c.in_ok-entry.entry) in
    judged_modules (world_of c.args.hosted.world) (state_of c.args.hosted).modules c.args.uploads (state_of done.hosted).modules done.uploads c.in_ok-done.ensures.next.judged
    ∙ (ap (λ (m : Modules). modules_with m done.uploads) start ∙ sym (modules_more empty entries whole))
