-- What the amount that is taken from a pile leaves in a room's part.
use Rattle.std.proofs.Common.{◌≡◌, ◌≢◌, ℕ, Bool, if◌then◌else◌, List, Some, sym, ap, ◌∙◌}
use Rattle.std.proofs.lemmas.Bool.{eq-eqb, ne_eqb}
use Rattle.room_terrain.specs.declared.terrain.Ground.{Ground}
use Rattle.room_table.specs.declared.object.Object.{Object}
use Rattle.room_table.specs.Tables.{Table, find_object, removed}
use Rattle.room_rules.proofs.Calls.{set_in}
use Rattle.world_rules.specs.RoomParts.{RoomPart, table_part}
use Rattle.world_rules.specs.Changes.{with_object as with_in_part, without as without_in_part}
use Rattle.world_rules.specs.Loads.{taken_from, with_less}
use Rattle.world_rules.proofs.TableParts.{part_replaced, part_without}

module _ (grounds : List Ground) (table : Table) (pile : Object) (amount : ℕ) where
  abbrev part : RoomPart
  part = table_part grounds table

  abbrev either : Bool → RoomPart
  either all = if all then without_in_part pile.id part else with_in_part (with_less amount pile) part

  -- A pile of which all is taken is gone.
  pub taken_whole : amount ≡ pile.energy → table_part grounds (removed pile.id table) ≡ taken_from pile amount (table_part grounds table)
  taken_whole all = part_without grounds table pile.id ∙ sym (ap either (eq-eqb amount pile.energy all))

  -- Any other keeps the rest.
  pub taken_less : amount ≢ pile.energy → find_object pile.id table.objects ≡ Some pile
      → table_part grounds (set_in (with_less amount pile) table) ≡ taken_from pile amount (table_part grounds table)
  taken_less less is = part_replaced grounds table (with_less amount pile) (pile, is) ∙ sym (ap either (ne_eqb amount pile.energy less))
