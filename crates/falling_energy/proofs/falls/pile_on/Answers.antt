use Rattle.std.proofs.Common.{sym, ◌∙◌}
use Rattle.falling_energy.proofs.Piles.{pile_by_id}
use Rattle.falling_energy.proofs.falls.pile_on.Goals as goal

pub returns-clause-found : goal.returns-clause-found
returns-clause-found c =
    c.copied.ensures ∙ c.get.ensures ∙ pile_by_id c.args.x c.args.y c.in_ok-id.id c.args.room.now.objects c.stands_in_order.ensures.rising (sym c.in_ok-id.was ∙ c.at.ensures)
