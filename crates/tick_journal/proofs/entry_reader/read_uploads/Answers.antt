use Rattle.std.proofs.Common.{[], ◌∷◌, length-append, refl, arith, rules}
use Rattle.std.proofs.lemmas.Result.{err_from_is_err_and}
use Rattle.tick_journal.specs.Contents.{upload_bytes}
use Rattle.tick_journal.specs.TickForms.{HasUploadForm}
use Rattle.tick_journal.proofs.Listed.{listed_short, under_start, under_more, under_none, under_whole}
use Rattle.tick_journal.proofs.Recorded.{upload_one}
use Rattle.tick_journal.proofs.entry_reader.read_uploads.Goals as goal

pub returns-in_err-count-clause-malformed : goal.returns-in_err-count-clause-malformed
returns-in_err-count-clause-malformed c =
    let p = err_from_is_err_and c.from_residual.result c.from_residual.ensures.1 in
    rw p.1 (λ _ list rest form e. listed_short upload_bytes list c.args.from.now.0 rest c.in_err-count.ensures.short e)

pub each-init : goal.each-init
each-init c =
    rw c.new-list.ensures.items (record {
      counted = refl;
      under = under_start HasUploadForm upload_bytes c.in_ok-count.count c.args.from.now.0 c.u32.new.self.0 c.in_ok-count.ensures.found;
    })

pub returns-in_err-entry-clause-malformed : goal.returns-in_err-entry-clause-malformed
returns-in_err-entry-clause-malformed c =
    let p = err_from_is_err_and c.from_residual-in_err-entry.result c.from_residual-in_err-entry.ensures.1 in
    let i = c.each.invariant in
    rw (p.1, p.2) (λ is list rest form e.
    under_none HasUploadForm upload_bytes upload_one c.in_ok-count.count c.args.from.now.0 c.each.list.items list c.each.from.0 rest (search rules) (omega (arith, i.counted)) i.under (c.in_err-entry.ensures.malformed is) form.forms form.count e)

pub each-preserved : goal.each-preserved
each-preserved c =
    let i = c.each.invariant in
    let found = c.in_ok-entry.ensures.found in
    record {
      counted = rw c.in_ok-push.ensures.items (omega (arith, length-append c.each.list.items (c.in_ok-entry.entry ∷ []), i.counted));
      under = rw c.in_ok-push.ensures.items (under_more HasUploadForm upload_bytes c.in_ok-count.count c.args.from.now.0 c.each.list.items c.in_ok-entry.entry c.each.from.0 c.read_upload.new.from.0 i.under found.0 found.1);
    }

pub returns-clause-found : goal.returns-clause-found
returns-clause-found c =
    let i = c.each.invariant in
    let under = i.under in (
      record { forms = under.forms; count = omega (arith, i.counted) },
      under_whole HasUploadForm upload_bytes c.in_ok-count.count c.args.from.now.0 c.each.list.items c.each.from.0 under (omega (arith, i.counted)),
    )
