use Rattle.std.proofs.Common.{◌<◌, length, get_or, ap, ◌∙◌, ◌++◌, ◌∷◌, [], List, arith}
use Rattle.std.proofs.lemmas.List.{get_or_default}
use Rattle.world_hub.specs.declared.summary.PlayerLine.{PlayerLine}
use Rattle.world_journal.specs.declared.recovered.UploadCount.{UploadCount}
use Rattle.served_ticks.specs.Summaries.{line_with}
use Rattle.served_ticks.proofs.Lines.{lines_front, lines_more}
use Rattle.served_ticks.proofs.summary.lines_by.Goals as goal

pub loop-place-preserved : goal.loop-place-preserved
loop-place-preserved c =
    let i = c.loop-place.place in
    let one = c.index-accounts-place in
    let none : UploadCount = record { player = 0; uploads = 0; last = 0 } in
    let count : UploadCount = get_or c.args.counts.now i none in
    let first : i < length c.args.accounts.now = omega arith in
    let second : i < length c.args.counts.now = omega arith in
    c.in_ok-push.ensures.items
    ∙ (ap (λ (line : PlayerLine). c.loop-place.lines.items ++ line ∷ []) c.line_by.ensures
    ∙ (ap (λ (l : List PlayerLine). l ++ line_with one.result count ∷ []) c.loop-place.invariant
    ∙ lines_more c.args.accounts.now c.args.counts.now i one.result count first second one.is (get_or_default c.args.counts.now i none count second)))

pub returns : goal.returns
returns c = c.loop-place.invariant ∙ lines_front c.args.accounts.now c.args.counts.now c.loop-place.place (omega arith)
