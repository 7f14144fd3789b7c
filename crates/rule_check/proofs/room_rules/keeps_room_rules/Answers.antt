use Rattle.std.proofs.Common.{◌∙◌, sym}
use Rattle.rule_check.proofs.RoomRules.{room_kept, wrong_tile}
use Rattle.rule_check.proofs.room_rules.keeps_room_rules.Goals as goal

pub returns-then-is_some : goal.returns-then-is_some
returns-then-is_some c = wrong_tile c.args.room.now.terrain.now c.args.room.now.objects.now c.first_object.result c.first_object.ensures (sym c.is_some.ensures ∙ c.if-is_some.true)

pub returns : goal.returns
returns c =
    room_kept c.args.room.now.terrain.now c.args.room.now.objects.now c.first_object.result c.first_object-2.result c.in_ok-blocked_in.field-0 c.is_none.result c.first_object.ensures (sym c.is_some.ensures ∙ c.if-is_some.false)
    c.first_object-2.ensures (sym c.is_some-2.ensures ∙ c.if-is_some-2.false) c.if-is_broken.ensures c.in_ok-blocked_in.ensures c.is_none.ensures
