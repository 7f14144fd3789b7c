-- What a hand-over between two objects makes of a room's part.
use Rattle.std.proofs.Common.{◌≡◌, ℕ, ◌==◌, List, Some, ap, ◌∙◌}
use Rattle.room_terrain.specs.declared.terrain.Ground.{Ground}
use Rattle.room_table.specs.declared.object.Object.{Object}
use Rattle.room_table.specs.Tables.{Table, IsOnTile, find_object}
use Rattle.room_rules.specs.Calls.{IsReady, Keeps}
use Rattle.room_rules.proofs.Calls.{keeps_itself, set_in}
use Rattle.world_rules.specs.RoomParts.{table_part}
use Rattle.world_rules.specs.Changes.{with_object as with_in_part}
use Rattle.world_rules.specs.Loads.{handed_over, with_less, with_more}
use Rattle.world_rules.proofs.TableParts.{found_on_tile, part_replaced}
use Rattle.creep_logistics.proofs.Standing.{keeps_set, still_set}

module _ (table : Table) (amount : ℕ) (giver taker : Object) where
  -- the table once the giver has less, and once the taker has more too
  abbrev pub given : Table
  given = set_in (with_less amount giver) table

  abbrev pub handed : Table
  handed = set_in (with_more amount taker) given

  pub part_handed : (grounds : List Ground) → find_object giver.id table.objects ≡ Some giver → find_object taker.id table.objects ≡ Some taker
      → table_part grounds handed ≡ handed_over amount giver taker (table_part grounds table)
  part_handed grounds gives takes =
      part_replaced grounds given (with_more amount taker) (still_set taker.id (with_less amount giver) table.objects (taker, takes))
      ∙ ap (with_in_part (with_more amount taker)) (part_replaced grounds table (with_less amount giver) (giver, gives))

  pub less_on_tile : IsReady table → find_object giver.id table.objects ≡ Some giver → IsOnTile (with_less amount giver)
  less_on_tile ready gives = found_on_tile (λ o. o.id == giver.id) table.objects giver (with_less amount giver).energy ready.tiles gives

  pub more_on_tile : IsReady table → find_object taker.id table.objects ≡ Some taker → IsOnTile (with_more amount taker)
  more_on_tile ready takes = found_on_tile (λ o. o.id == taker.id) table.objects taker (with_more amount taker).energy ready.tiles takes

  pub keeps_handed : IsReady table → find_object giver.id table.objects ≡ Some giver → find_object taker.id table.objects ≡ Some taker → Keeps table handed
  keeps_handed ready gives takes =
      keeps_set table given (with_more amount taker) (more_on_tile ready takes)
      (keeps_set table table (with_less amount giver) (less_on_tile ready gives) (keeps_itself table ready))
