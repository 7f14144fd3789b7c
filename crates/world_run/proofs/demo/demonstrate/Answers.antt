use Rattle.std.proofs.Common.{◌≡◌, List, ℕ, [], ap, subst, ◌∙◌}
use Rattle.std.specs.Prelude.{codes, decimal, ◌++◌, length}
use Rattle.upload_stream.specs.Streams.{UploadList}
use Rattle.upload_stream.proofs.Judged.{uploads_one}
use Rattle.world_gen.specs.Uploads.{uploads}
use Rattle.world_run.specs.Demo.{IsLastLine}
use Rattle.world_run.proofs.Demonstrates.{demonstrated, exhausted, from_nothing}
use Rattle.world_run.proofs.demo.demonstrate.Goals as goal

pub returns-in-Ok-text_of-clause-text : goal.returns-in-Ok-text_of-clause-text
returns-in-Ok-text_of-clause-text c =
    let found = c.in-Ok-generate_uploads.ensures.found in
    let listed = subst (λ (b : List ℕ). UploadList b c.uploads_of-uploads.result) c.deref.ensures.value c.uploads_of-uploads.ensures in
    let made = uploads_one c.in-Ok-generate_uploads.stream.items c.uploads_of-uploads.result (uploads found.0 c.args.rooms) listed found.2 in
    let run = c.keep_journal.ensures.done c.in-Done.is in
    let no_disk : c.new-disk.result.bytes.items ≡ [] = ap (λ v. v.items) c.new-disk.ensures.seen ∙ c.new-2.ensures.items in
    let told = c.in-Ok-text_of.ensures in
    demonstrated c.args.seed c.args.rooms c.in-Ok.world c.in-Ok.ensures.same c.in-Ok.ensures.starts.hosted.sound found.0 found.1 _ made c.args.ticks run.0 c.keep_journal.new.out.bytes.items c.keep_journal.new.disk.bytes.items told.0 c.in-Ok-text_of.text.items run.1
    (from_nothing _ _ _ _ _ _ _ no_disk c.new-lines.ensures.written run.2) (subst (IsLastLine told.0) c.written.ensures told.1) (told.2 ∙ ap (λ (b : List ℕ). told.0 ++ codes "journal " ++ decimal (length b) ++ codes "\n") c.bytes.ensures)

pub returns-in-IdsExhausted-clause-none : goal.returns-in-IdsExhausted-clause-none
returns-in-IdsExhausted-clause-none c =
    let found = c.in-Ok-generate_uploads.ensures.found in
    let listed = subst (λ (b : List ℕ). UploadList b c.uploads_of-uploads.result) c.deref.ensures.value c.uploads_of-uploads.ensures in
    let made = uploads_one c.in-Ok-generate_uploads.stream.items c.uploads_of-uploads.result (uploads found.0 c.args.rooms) listed found.2 in
    let run = c.keep_journal.ensures.exhausted c.in-IdsExhausted.index c.in-IdsExhausted.is in
    let no_disk : c.new-disk.result.bytes.items ≡ [] = ap (λ v. v.items) c.new-disk.ensures.seen ∙ c.new-2.ensures.items in
    exhausted c.args.seed c.args.rooms c.in-Ok.world c.in-Ok.ensures.same c.in-Ok.ensures.starts.hosted.sound found.0 found.1 _ made c.args.ticks c.in-IdsExhausted.index run.0 _ _ _ _ no_disk c.new-lines.ensures.written run.1 run.2 run.3
