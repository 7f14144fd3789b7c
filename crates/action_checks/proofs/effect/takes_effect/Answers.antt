use Rattle.std.proofs.Common.{Bool, ◌&&◌, sym, ap, ◌∙◌, nat_lt, option_map}
use Rattle.world_rules.specs.World.{shown}
use Rattle.world_rules.specs.Checks.{holds_of, takes_effect}
use Rattle.world_rules.proofs.TableParts.{part_values}
use Rattle.action_checks.proofs.effect.takes_effect.Goals as goal

pub returns-then-all_hold : goal.returns-then-all_hold
returns-then-all_hold c = λ grounds.
    let room = c.args.room.now in
    let entry = c.args.intent.now in
    let around = sym (part_values grounds room c.stands_in_order.ensures.rising) in
    let actor = c.standing.ensures.part grounds in
    let target = c.standing-2.ensures.part grounds in
    ap (λ (b : Bool). b && c.has_hits.result) (sym c.if-all_hold.true)
    ∙ (λ i. c.all_hold.ensures i && c.has_hits.ensures i)
    ∙ (λ i. takes_effect c.args.action entry (around i) (actor i) (target i))

pub returns-else-all_hold : goal.returns-else-all_hold
returns-else-all_hold c = λ grounds.
    let room = c.args.room.now in
    let entry = c.args.intent.now in
    let around = sym (part_values grounds room c.stands_in_order.ensures.rising) in
    let actor = c.standing.ensures.part grounds in
    let target = c.standing-2.ensures.part grounds in
    let hits : Bool = holds_of (option_map shown c.standing.result) (λ creep. nat_lt 0 creep.hits) in
    let fails = sym c.if-all_hold.false ∙ c.all_hold.ensures in
    c.if-all_hold.false
    ∙ ap (λ (b : Bool). b && hits) fails
    ∙ (λ i. takes_effect c.args.action entry (around i) (actor i) (target i))
