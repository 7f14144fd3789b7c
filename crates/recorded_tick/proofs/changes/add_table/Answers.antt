use Rattle.std.proofs.Common.{inr, rules}
use Rattle.recorded_tick.proofs.changes.add_table.Goals as goal

pub returns-in_ok-push : goal.returns-in_ok-push
returns-in_ok-push c =
    inr ((λ alike. (let yes = c.are_alike.ensures.1 alike in absurd (cc))), c.in_ok-copy_bare.field-0, search rules, c.in_ok-copy_bare.ensures)
