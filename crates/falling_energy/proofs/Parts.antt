-- What energy that falls makes of a room's part.
use Rattle.std.proofs.Common.{◌≡◌, ℕ, ◌+◌, ◌*◌, ◌^◌, ◌<◌, min, Bool, if◌then◌else◌, List, Option, Some, None, sym, ap, ◌∙◌}
use Rattle.std.specs.List.{find}
use Rattle.std.proofs.lemmas.Bool.{ne_eqb, lt-ltb}
use Rattle.room_terrain.specs.declared.terrain.Ground.{Ground}
use Rattle.room_table.specs.declared.object.Object.{Object}
use Rattle.room_table.specs.Tables.{Table, IsRising, with_object, with_new}
use Rattle.world_rules.specs.RoomParts.{RoomPart, table_part}
use Rattle.world_rules.specs.Drops.{is_pile_on, pile_on, pile_of, pile_bound, fallen, fallen_on}
use Rattle.world_rules.proofs.TableParts.{found_by_id, part_new, part_replaced, part_values, put_in_part}

-- the pile of a tile, in a room's part
part_pile : (grounds : List Ground) (table : Table) (x y : ℕ) → IsRising table.objects → pile_on x y (table_part grounds table) ≡ find (is_pile_on x y) table.objects
part_pile grounds table x y rise = ap (find (is_pile_on x y)) (part_values grounds table rise)

module _ (grounds : List Ground) (table : Table) (x y amount : ℕ) (rise : IsRising table.objects) (some : amount ≡ 0 → ⊥) where
  falls_on : (found : Option Object) → find (is_pile_on x y) table.objects ≡ found → fallen x y amount (table_part grounds table) ≡ fallen_on found x y amount (table_part grounds table)
  falls_on found is =
      ap (λ (b : Bool). if b then table_part grounds table else fallen_on (pile_on x y (table_part grounds table)) x y amount (table_part grounds table)) (ne_eqb amount 0 some)
      ∙ ap (λ (o : Option Object). fallen_on o x y amount (table_part grounds table)) (part_pile grounds table x y rise ∙ is)

  -- The pile that lies there grows.
  pub fallen_grown : (pile : Object) → find (is_pile_on x y) table.objects ≡ Some pile
      → table_part grounds (record table { objects = with_object (record pile { energy = min pile_bound (pile.energy + amount) }) table.objects }) ≡ fallen x y amount (table_part grounds table)
  fallen_grown pile is =
      part_replaced grounds table (record pile { energy = min pile_bound (pile.energy + amount) }) (pile, found_by_id (is_pile_on x y) table.objects pile rise is)
      ∙ sym (falls_on (Some pile) is)

  -- A pile is made.
  pub fallen_made : (spare : ℕ) → table.next < 2 ^ 32 → find (is_pile_on x y) table.objects ≡ None
      → table_part grounds (record table { next = table.next + 1; objects = with_new (pile_of (table.index * 2 ^ 32 + table.next) x y (min pile_bound amount)) table.objects; spare = spare }) ≡ fallen x y amount (table_part grounds table)
  fallen_made spare room is =
      let more : RoomPart = put_in_part (pile_of (table.index * 2 ^ 32 + table.next) x y (min pile_bound amount)) (record (table_part grounds table) { next = table.next + 1 }) in
      ap (λ (part : RoomPart). record part { next = table.next + 1 }) (part_new grounds table (pile_of (table.index * 2 ^ 32 + table.next) x y (min pile_bound amount)))
      ∙ sym (ap (λ (b : Bool). if b then more else table_part grounds table) (lt-ltb table.next (2 ^ 32) room))
      ∙ sym (falls_on None is)
