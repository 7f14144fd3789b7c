use Rattle.room_table.proofs.Rising.{non_decreasing}
use Rattle.std.proofs.Common.{sym, subst}
use Rattle.std.specs.List.{AllByRecursion}
use Rattle.room_table.specs.Tables.{IsOnTile, IsRising}
use Rattle.changed_rules.proofs.room.keeps_in.Goals as goal

pub keeps_room_rules-requires : goal.keeps_room_rules-requires
keeps_room_rules-requires c = record {
  order = non_decreasing (λ object. object.id) c.args.view.now.objects.now (subst IsRising (sym c.requires) c.stands_in_order.ensures.rising);
  tiles = subst (AllByRecursion IsOnTile) (sym c.requires) c.if-not-is_on_tiles.ensures;
}
