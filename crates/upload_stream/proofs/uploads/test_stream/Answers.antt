use Rattle.std.proofs.Common.{◌≡◌, ℕ, List, ◌+◌, [], ◌∷◌, ◌++◌, length, ap, sym, subst, arith, refl}
use Rattle.std.proofs.lemmas.Result.{err_from_is_err_and}
use Rattle.upload_stream.specs.Entries.{upload_of}
use Rattle.upload_stream.specs.Streams.{Upload}
use Rattle.upload_stream.proofs.Entries.{begins_shorter}
use Rattle.upload_stream.proofs.Judged.{LeadsTo, leads_end, leads_first_bad, leads_more, none_left}
use Rattle.upload_stream.proofs.uploads.test_stream.Goals as goal

pub each-init : goal.each-init
each-init c =
    let bytes = c.args.bytes.now in
    subst (λ (p : List ℕ × ℕ). ((uploads : List Upload) × LeadsTo 0 bytes uploads 0 p.0) × (p.1 + length p.0 ≡ length bytes)) (sym c.over-from.ensures) (([], (refl, refl)), omega arith)

pub returns-in_err-upload-clause-bad : goal.returns-in_err-upload-clause-bad
returns-in_err-upload-clause-bad c =
    let p = err_from_is_err_and c.from_residual.result c.from_residual.ensures.1 in
    let bad = c.in_err-upload.ensures.bad in
    let read = c.each.invariant.0 in
    rw (p.1, p.2) (leads_first_bad c.args.bytes.now read.0 c.each.least c.each.from.0 _ read.1 (omega (arith, bad.0, c.each.invariant.1)) (λ none. omega (arith, ap length none, c.left.ensures, c.each-test.true)) bad.1)

pub each-smaller : goal.each-smaller
each-smaller c =
    omega (arith, begins_shorter c.each.least c.each.from.0 (upload_of c.in_ok-upload.upload) c.next_upload.new.from.0 c.in_ok-upload.ensures.found)

pub each-preserved : goal.each-preserved
each-preserved c =
    let read = c.each.invariant.0 in
    ((read.0 ++ upload_of c.in_ok-upload.upload ∷ [], leads_more 0 c.args.bytes.now read.0 c.each.least c.each.from.0 (upload_of c.in_ok-upload.upload) c.next_upload.new.from.0 read.1 c.in_ok-upload.ensures.found), omega (arith, c.each.invariant.1, c.in_ok-upload.ensures.place))

pub returns-clause-good : goal.returns-clause-good
returns-clause-good c =
    let read = c.each.invariant.0 in
    (read.0, leads_end c.args.bytes.now read.0 c.each.least c.each.from.0 read.1 (none_left c.each.from.0 (omega (arith, c.left.ensures, c.each-test.false))))
