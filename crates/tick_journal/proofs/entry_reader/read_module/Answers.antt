use Rattle.std.proofs.Common.{arith, rules}
use Rattle.std.proofs.lemmas.Result.{err_from_is_err_and}
use Rattle.tick_journal.proofs.Recorded.{module_short, module_behind, module_behind_short, module_whole}
use Rattle.tick_journal.proofs.entry_reader.read_module.Goals as goal

pub returns-in_err-length-clause-malformed : goal.returns-in_err-length-clause-malformed
returns-in_err-length-clause-malformed c =
    let p = err_from_is_err_and c.from_residual.result c.from_residual.ensures.1 in
    rw p.1 (λ _ text rest form e. module_short text c.args.from.now.0 rest c.in_err-length.ensures.short e)

pub returns-then-length-gt-MOST_KEPT-clause-malformed : goal.returns-then-length-gt-MOST_KEPT-clause-malformed
returns-then-length-gt-MOST_KEPT-clause-malformed c = λ _ text rest form e.
    let one = module_behind text c.in_ok-length.length c.args.from.now.0 c.u32.new.self.0 rest (search rules) form c.in_ok-length.ensures.found e in
    let most = form.most in
    omega (arith, one.0)

pub returns-in_err-part-clause-malformed : goal.returns-in_err-part-clause-malformed
returns-in_err-part-clause-malformed c =
    let p = err_from_is_err_and c.from_residual-in_err-part.result c.from_residual-in_err-part.ensures.1 in
    rw p.1 (λ _ text rest form e. module_behind_short text c.in_ok-length.length c.args.from.now.0 c.u32.new.self.0 rest (search rules) form c.in_ok-length.ensures.found c.in_err-part.ensures.short e)

pub returns-clause-found : goal.returns-clause-found
returns-clause-found c =
    module_whole _ _ _ _ _ _ c.in_ok-length.ensures.found c.in_ok-part.ensures.found c.in_ok-part.ensures.count c.in_ok-copy_of.ensures.same (omega arith) c.in_ok-copy_of.ensures.bytes
