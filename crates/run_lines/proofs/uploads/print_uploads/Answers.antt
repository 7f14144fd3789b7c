use Rattle.std.proofs.Common.{◌≡◌, [], ◌∷◌, ◌++◌, List, ℕ, subst, sym, ap, ◌∙◌, append_assoc}
use Rattle.std.proofs.lemmas.List.{append-nil}
use Rattle.std.proofs.lemmas.Result.{err_from_is_err_and, on_err_weaker}
use Rattle.std.specs.List.{flat_map}
use Rattle.tick_journal.specs.declared.entries.UploadEntry.{UploadEntry}
use Rattle.world_io.specs.Told.{AppendsPrefix}
use Rattle.judged_uploads.specs.Entries.{entry_of}
use Rattle.run_lines.specs.Lines.{upload_line}
use Rattle.run_lines.specs.inner.Pieces.{Gives}
use Rattle.run_lines.proofs.Giving.{cut_in_list, flat_more, gives_more, prefix_behind}
use Rattle.run_lines.proofs.uploads.print_uploads.Goals as goal

pub each-preserved : goal.each-preserved
each-preserved g c =
    let given = c.each.invariant.given in
    let entry = entry_of c.in-Some.entry in
    record {
      given = (
        given.0 ++ entry ∷ [],
        given.1 ∙ (ap (λ (z : List UploadEntry). given.0 ++ z) c.in-Some.ensures.some ∙ sym (append_assoc given.0 (entry ∷ []) c.next.new.self)),
        subst (Gives (g.O.Sink.written c.args.out.now) (g.O.Sink.written c.print_upload.new.out) [] c.print_upload.new.piece.items) (sym (flat_more upload_line given.0 entry))
            (gives_more _ _ _ [] _ _ (flat_map upload_line given.0) (upload_line entry) given.2 c.in_ok-print_upload.ensures.given),
      );
      steady = c.in_ok-print_upload.ensures.cause.kept ∙ c.each.invariant.steady;
    }

pub returns-in_err-print_upload-clause-cut : goal.returns-in_err-print_upload-clause-cut
returns-in_err-print_upload-clause-cut g c =
    let p = err_from_is_err_and c.from_residual.result c.from_residual.ensures.1 in
    let old = g.O.Sink.written c.args.out.now in
    let new = g.O.Sink.written c.print_upload.new.out in
    let given = c.each.invariant.given in
    let entry = entry_of c.in-Some.entry in
    let whole : given.0 ++ entry ∷ c.next.new.self ≡ c.args.uploads.now = ap (λ (z : List UploadEntry). given.0 ++ z) (sym c.in-Some.ensures.some) ∙ sym given.1 in
    rw p.1 (subst (λ (z : List UploadEntry). AppendsPrefix old new (flat_map upload_line z)) whole
    (cut_in_list upload_line old _ new [] _ given.0 entry c.next.new.self given.2 c.in_err-print_upload.ensures.cut))

pub returns-clause-cut : goal.returns-clause-cut
returns-clause-cut g c =
    let old = g.O.Sink.written c.args.out.now in
    let new = g.O.Sink.written c.write_all.new.sink in
    let given = c.each.invariant.given in
    let all : given.0 ≡ c.args.uploads.now = sym (append-nil given.0) ∙ (ap (λ (z : List UploadEntry). given.0 ++ z) (sym c.in_default.ensures.none) ∙ sym given.1) in
    let text : given.2.0 ++ c.deref.result.now ≡ flat_map upload_line c.args.uploads.now = ap (λ (z : List ℕ). given.2.0 ++ z) c.deref.ensures.value ∙ (sym given.2.2 ∙ ap (flat_map upload_line) all) in
    on_err_weaker c.write_all.result (λ part. subst (AppendsPrefix old new) text (prefix_behind old _ new given.2.0 c.deref.result.now given.2.1 part)) c.write_all.ensures.prefix
