use Rattle.std.proofs.Common.{◌≡◌, ℕ, List, Option, Some, inl, inr, refl, subst, ◌∙◌}
use Rattle.upload_stream.specs.Streams.{IsFirstBad}
use Rattle.upload_stream.proofs.Judged.{not_both}
use Rattle.world_io.specs.Told.{GaveAll}
use Rattle.object_store.specs.Stored.{Stored}
use Rattle.upload_stream.specs.Streams.{UploadList}
use Rattle.world_run.specs.Runs.{Stood}
use Rattle.world_run.proofs.Gave.{gave_whole}
use Rattle.world_run.proofs.Worldly.{file_read}
use Rattle.world_run.proofs.run.run_stored.Goals as goal

pub returns-in-Err-clause-complete : goal.returns-in-Err-clause-complete
returns-in-Err-clause-complete g c =
    λ bytes stream found list run left form told short spells disk_bytes entries kept stood world uploads out disk. inr (inl (c.in-Err.ensures.complete bytes stream found run left form told short world uploads))

pub returns-in-Err-read-clause-complete : goal.returns-in-Err-read-clause-complete
returns-in-Err-read-clause-complete g c =
    λ bytes stream found list run left form told short spells disk_bytes entries kept stood world uploads out disk.
    let gave : GaveAll (Some stream) (g.U.Source.left c.read_inputs.new.uploads) c.in-Ok.inputs.stream.items = subst (λ (o : Option (List ℕ)). GaveAll o (g.U.Source.left c.read_inputs.new.uploads) c.in-Ok.inputs.stream.items) told c.in-Ok.ensures.stream in
    let whole : c.deref.result.now ≡ stream = c.deref.ensures.value ∙ gave_whole _ stream c.in-Ok.inputs.stream.items gave in
    let bad : IsFirstBad stream c.in-Err-read.bad.place = subst (λ (b : List ℕ). IsFirstBad b c.in-Err-read.bad.place) whole c.in-Err-read.ensures.bad in
    absurd (not_both stream list c.in-Err-read.bad.place spells bad)

pub returns-in-Ok-read-clause-exhausted : goal.returns-in-Ok-read-clause-exhausted
returns-in-Ok-read-clause-exhausted g c = λ index is.
    let end = c.keep_journal.ensures.exhausted index is in
    let inputs = c.in-Ok.inputs in
    let list : UploadList inputs.stream.items c.in-Ok-read.uploads = subst (λ (b : List ℕ). UploadList b c.in-Ok-read.uploads) c.deref.ensures.value c.in-Ok-read.ensures.list in
    (inputs.world, c.in-Ok-read.uploads, end.0, (inputs.ticks, end.1, c.in-Ok.ensures.run), c.in-Ok.ensures.found, c.in-Ok.ensures.starts.hosted.sound, (inputs.stream.items, c.in-Ok.ensures.stream, c.in-Ok.ensures.within, list), end.2, end.3)

pub returns-in-Ok-read-clause-complete : goal.returns-in-Ok-read-clause-complete
returns-in-Ok-read-clause-complete g c =
    λ bytes stream found list run left form told short spells disk_bytes entries kept stood world uploads out disk.
    let file = c.in-Ok.ensures.found in
    let gave = subst (λ (o : Option (List ℕ)). GaveAll o (g.W.Source.left c.read_inputs.new.world) file.0) left file.1 in
    let same = file_read _ bytes file.0 found c.in-Ok.inputs.world c.in-Ok.ensures.starts.hosted.sound gave form file.2 in
    c.keep_journal.ensures.complete disk_bytes entries kept (subst (λ (base : Stored). Stood (g.D.Disk.seen c.args.disk.now) base entries) same stood) out disk

pub returns-in-Err-clause-outlives : goal.returns-in-Err-clause-outlives
returns-in-Err-clause-outlives g c = λ bytes rests. inl (refl, refl, refl)

pub returns-in-Err-read-clause-outlives : goal.returns-in-Err-read-clause-outlives
returns-in-Err-read-clause-outlives g c = λ bytes rests. inl (refl, refl, refl)

pub returns-in-Ok-read-clause-outlives : goal.returns-in-Ok-read-clause-outlives
returns-in-Ok-read-clause-outlives g c = λ bytes rests.
    let inputs = c.in-Ok.inputs in
    let list : UploadList inputs.stream.items c.in-Ok-read.uploads = subst (λ (b : List ℕ). UploadList b c.in-Ok-read.uploads) c.deref.ensures.value c.in-Ok-read.ensures.list in
    inr (inputs.world, c.in-Ok-read.uploads, inputs.ticks, c.in-Ok.ensures.run, c.in-Ok.ensures.found, c.in-Ok.ensures.starts.hosted.sound, (inputs.stream.items, c.in-Ok.ensures.stream, c.in-Ok.ensures.within, list), c.keep_journal.ensures.outlasts bytes rests)

pub returns-in-Err-clause-read_too : goal.returns-in-Err-clause-read_too
returns-in-Err-clause-read_too g c = g.met.D.Disk.left_now c.args.disk.now

pub returns-in-Err-read-clause-read_too : goal.returns-in-Err-read-clause-read_too
returns-in-Err-read-clause-read_too g c = g.met.D.Disk.left_now c.args.disk.now

pub returns-in-Ok-read-clause-read_too : goal.returns-in-Ok-read-clause-read_too
returns-in-Ok-read-clause-read_too g c = g.met.D.Disk.left_now c.keep_journal.new.disk
