use Rattle.std.proofs.Common.{Some, is_some, option_copied, sym, ap, ◌∙◌}
use Rattle.upkeep_rules.proofs.Passing.{left_then, stays}
use Rattle.upkeep_rules.proofs.pass.is_left.Goals as goal

pub returns-then-stays-clause-left : goal.returns-then-stays-clause-left
returns-then-stays-clause-left c before after object whole here =
    let read = c.in-Some.object.now in
    let at = sym c.nth.ensures ∙ ap option_copied c.in-Some.is in
    sym (ap is_some (left_then c.args.step c.args.room.now c.args.place read at before after object whole here (Some read) (c.stays.ensures c.if-stays.true)))

pub returns-then-stays-clause-table : goal.returns-then-stays-clause-table
returns-then-stays-clause-table c before after object whole here =
    let read = c.in-Some.object.now in
    let at = sym c.nth.ensures ∙ ap option_copied c.in-Some.is in
    stays c.args.step c.args.room.now c.args.place read at before after object whole here (c.stays.ensures c.if-stays.true)
