use Rattle.std.proofs.Common.{ℕ, ◌-◌, option_copied, refl, sym, ap, ◌∙◌}
use Rattle.room_table.specs.Tables.{IsOnTile, with_object}
use Rattle.upkeep_rules.proofs.Passing.{all_read, found_there}
use Rattle.spawn_rules.proofs.Paid.{paid_other, paid_share}
use Rattle.world_rules.specs.Loads.{with_less}
use Rattle.spawn_rules.proofs.spawning.pay_at.Goals as goal

pub returns-then-not-is_one : goal.returns-then-not-is_one
returns-then-not-is_one c =
    let at = sym c.nth.ensures ∙ ap option_copied c.in-Some.is in
    record { paid = paid_other c.args.kind c.args.owner c.args.cost c.args.place c.args.room.now c.in-Some.object.now at c.requires.tiles (sym c.is_one.ensures ∙ c.if-not-is_one.true) }

pub set-requires-clause-tile : goal.set-requires-clause-tile
set-requires-clause-tile c =
    let at = sym c.nth.ensures ∙ ap option_copied c.in-Some.is in
    let on = all_read IsOnTile c.args.room.now.objects c.args.place c.in-Some.object.now c.requires.tiles at in
    record { column = on.column; row = on.row }

pub set-requires-clause-there : goal.set-requires-clause-there
set-requires-clause-there c =
    let at = sym c.nth.ensures ∙ ap option_copied c.in-Some.is in
    let object = c.in-Some.object.now in
    (object, found_there c.args.room.now.objects c.args.place object object.id c.stands_in_order.ensures.rising at refl)

pub returns : goal.returns
returns c =
    let at = sym c.nth.ensures ∙ ap option_copied c.in-Some.is in
    let object = c.in-Some.object.now in
    let on = all_read IsOnTile c.args.room.now.objects c.args.place object c.requires.tiles at in
    let set = c.set.ensures ∙ ap (λ (amount : ℕ). record c.args.room.now { objects = with_object (with_less amount object) c.args.room.now.objects }) c.min-amount.ensures in
    record {
      paid = paid_share c.args.kind c.args.owner c.args.cost c.args.place c.args.room.now object at c.requires.tiles c.stands_in_order.ensures.rising on (sym c.is_one.ensures ∙ c.if-not-is_one.false) (c.args.cost - c.min-amount.result) c.set.new.self (ap (λ (amount : ℕ). c.args.cost - amount) c.min-amount.ensures) set;
    }
