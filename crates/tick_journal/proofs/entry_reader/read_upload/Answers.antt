use Rattle.std.proofs.Common.{◌≡◌, true, false, sym, subst, refl, ap, length, arith, rules}
use Rattle.std.proofs.lemmas.Result.{err_from_is_err_and}
use Rattle.tick_journal.specs.TickForms.{IsLasting}
use Rattle.tick_journal.proofs.Recorded.{upload_short, upload_behind, upload_behind_result, upload_module, upload_whole}
use Rattle.tick_journal.proofs.entry_reader.read_upload.Goals as goal

pub returns-in_err-player-clause-malformed : goal.returns-in_err-player-clause-malformed
returns-in_err-player-clause-malformed c =
    let p = err_from_is_err_and c.from_residual.result c.from_residual.ensures.1 in
    rw p.1 (λ _ entry rest form e. upload_short entry c.args.from.now.0 rest c.in_err-player.ensures.short e)

pub returns-in_err-result_number-clause-malformed : goal.returns-in_err-result_number-clause-malformed
returns-in_err-result_number-clause-malformed c =
    let p = err_from_is_err_and c.from_residual-in_err-result_number.result c.from_residual-in_err-result_number.ensures.1 in
    rw p.1 (λ _ entry rest form e.
    let one = upload_behind entry c.in_ok-player.player c.args.from.now.0 c.u32.new.self.0 rest (search rules) form c.in_ok-player.ensures.found e in
    omega (arith, ap length c.in_err-result_number.ensures.short, ap length one.1))

pub returns-then-not-is_lasting-clause-malformed : goal.returns-then-not-is_lasting-clause-malformed
returns-then-not-is_lasting-clause-malformed c = λ _ entry rest form e.
    let one = upload_behind_result entry c.in_ok-player.player c.in_ok-result_number.result_number c.args.from.now.0 c.u32.new.self.0 c.u8.new.self.0 rest (search rules) form c.in_ok-player.ensures.found c.in_ok-result_number.ensures.found e in
    let no : false ≡ true = c.if-not-is_lasting.ensures.1 (subst IsLasting (sym one.0) form.result) in
    cc

pub returns-in_err-bytes-clause-malformed : goal.returns-in_err-bytes-clause-malformed
returns-in_err-bytes-clause-malformed c =
    let p = err_from_is_err_and c.from_residual-in_err-bytes.result c.from_residual-in_err-bytes.ensures.1 in
    rw (p.1, p.2) (λ is entry rest form e.
    let one = upload_behind_result entry c.in_ok-player.player c.in_ok-result_number.result_number c.args.from.now.0 c.u32.new.self.0 c.u8.new.self.0 rest (search rules) form c.in_ok-player.ensures.found c.in_ok-result_number.ensures.found e in
    c.in_err-bytes.ensures.malformed is entry.bytes rest (upload_module entry form) one.1)

pub returns-clause-found : goal.returns-clause-found
returns-clause-found c =
    let text = c.in_ok-bytes.ensures.found.0 in (
      record { result = c.if-not-is_lasting.ensures.0 refl; most = text.most; bytes = text.bytes; player = search rules },
      upload_whole _ c.args.from.now.0 c.u32.new.self.0 c.u8.new.self.0 c.read_module.new.from.0 c.in_ok-player.ensures.found c.in_ok-result_number.ensures.found c.in_ok-bytes.ensures.found.1,
    )
