use Rattle.std.proofs.Common.{[], min, sym, ◌∙◌}
use Rattle.game_tables.specs.declared.action.Action.TheVariants.{Transfer}
use Rattle.world_rules.specs.Checks.{between}
use Rattle.world_rules.specs.Loads.{handed_over, transferred_by}
use Rattle.world_rules.specs.RoomParts.{table_part}
use Rattle.creep_logistics.proofs.Standing.{creep_stands, target_stands}
use Rattle.creep_logistics.proofs.handing.transfer.Goals as goal

pub hand_over-requires-clause-giver : goal.hand_over-requires-clause-giver
hand_over-requires-clause-giver c =
    creep_stands Transfer c.args.intent.now c.args.room.now c.in-Some.creep c.in-Some.target (sym (c.parties.ensures []) ∙ c.in-Some.is)

pub hand_over-requires-clause-taker : goal.hand_over-requires-clause-taker
hand_over-requires-clause-taker c =
    target_stands Transfer c.args.intent.now c.args.room.now c.in-Some.creep c.in-Some.target (sym (c.parties.ensures []) ∙ c.in-Some.is)

pub returns-clause-rule : goal.returns-clause-rule
returns-clause-rule c = λ grounds.
    let part = table_part grounds c.args.room.now in
    let amount = c.min-amount.ensures ∙ (λ i. min (c.wanted.ensures i) (c.free_in.ensures.room grounds i)) in
    c.hand_over.ensures.rule grounds
    ∙ (λ i. handed_over (amount i) c.in-Some.creep c.in-Some.target part)
    ∙ sym (λ i. between (transferred_by c.args.intent.now.amount) ((sym (c.parties.ensures grounds) ∙ c.in-Some.is) i) part)
