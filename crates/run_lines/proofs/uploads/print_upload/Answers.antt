use Rattle.std.proofs.Common.{◌++◌, List, ℕ, subst, ◌∙◌}
use Rattle.std.proofs.lemmas.Result.{on_ok_weaker, on_err_weaker}
use Rattle.world_io.specs.Told.{AppendsPrefix}
use Rattle.judged_uploads.specs.Entries.{entry_of}
use Rattle.run_lines.specs.inner.Pieces.{Gives}
use Rattle.run_lines.proofs.LinesTexts.{upload_text}
use Rattle.run_lines.proofs.uploads.print_upload.Goals as goal

pub returns-clause-given : goal.returns-clause-given
returns-clause-given g c =
    let line = upload_text (entry_of c.args.entry.now) c.as_bytes.result.now c.as_bytes-2.result.now c.as_bytes-3.result.now (c.as_bytes.ensures.value ∙ c.format-player.ensures.text) (rw (c.as_bytes-2.ensures.value, c.as_bytes-3.ensures.value) c.result_words.ensures) in
    on_ok_weaker c.print_all.result (λ given. subst (Gives (g.O.Sink.written c.args.out.now) (g.O.Sink.written c.print_all.new.out) c.args.piece.now.items c.print_all.new.piece.items) line given) c.print_all.ensures.given

pub returns-clause-cut : goal.returns-clause-cut
returns-clause-cut g c =
    let line = upload_text (entry_of c.args.entry.now) c.as_bytes.result.now c.as_bytes-2.result.now c.as_bytes-3.result.now (c.as_bytes.ensures.value ∙ c.format-player.ensures.text) (rw (c.as_bytes-2.ensures.value, c.as_bytes-3.ensures.value) c.result_words.ensures) in
    on_err_weaker c.print_all.result (λ part. subst (λ (z : List ℕ). AppendsPrefix (g.O.Sink.written c.args.out.now) (g.O.Sink.written c.print_all.new.out) (c.args.piece.now.items ++ z)) line part) c.print_all.ensures.cut
