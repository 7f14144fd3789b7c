use Rattle.std.proofs.Common.{ℕ, ◌-◌, min, Option, sym, ap, ◌∙◌}
use Rattle.room_table.specs.declared.object.Object.{Object}
use Rattle.room_table.specs.Stores.{capacity}
use Rattle.world_rules.proofs.TableParts.{part_controller}
use Rattle.creep_work.proofs.harvesting.taken.Goals as goal

pub returns-clause-part : goal.returns-clause-part
returns-clause-part c =
    let creep = c.args.creep.now in
    λ grounds.
    let controller = c.controller.ensures ∙ sym (part_controller grounds c.args.room.now c.stands_in_order.ensures.rising) in
    let most = c.capacity-most.ensures ∙ ap (λ (o : Option Object). capacity o creep) controller in
    c.min.ensures ∙ ap (min c.args.amount) (c.saturating_sub.ensures ∙ ap (λ (n : ℕ). n - creep.energy) most)
