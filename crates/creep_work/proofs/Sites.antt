-- What a site that has come so far makes of a room's part.
use Rattle.std.proofs.Common.{◌≡◌, ℕ, ◌+◌, ◌*◌, ◌^◌, ◌<◌, ◌≤◌, Bool, if◌then◌else◌, List, sym, ap, ◌∙◌}
use Rattle.std.proofs.lemmas.Bool.{lt-ltb, le-ltb}
use Rattle.room_terrain.specs.declared.terrain.Ground.{Ground}
use Rattle.game_tables.specs.declared.kind.Kind.{Kind}
use Rattle.room_table.specs.declared.object.Object.{Object}
use Rattle.room_table.specs.Tables.{Table, HasId, with_new, removed}
use Rattle.world_rules.specs.RoomParts.{RoomPart, table_part}
use Rattle.world_rules.specs.Changes.{with_object as with_in_part, with_new as new_in_part, without as without_in_part}
use Rattle.world_rules.specs.Work.{advanced, building_on, total_of}
use Rattle.world_rules.proofs.TableParts.{part_new, part_replaced, part_without, put_in_part}
use Rattle.room_rules.proofs.Calls.{set_in}

-- the table with a building of a site under the next serial
abbrev pub built_in : Kind → RoomPart → Object → ℕ → Table → Table
built_in kind part site spare table = record table {
  next = table.next + 1;
  objects = with_new (building_on kind part site (table.index * 2 ^ 32 + table.next)) table.objects;
  spare = spare;
}

part_built : (grounds : List Ground) (table : Table) (kind : Kind) (part : RoomPart) (site : Object) (spare : ℕ) → table.next < 2 ^ 32
    → table_part grounds (built_in kind part site spare table) ≡ new_in_part (building_on kind part site) (table_part grounds table)
part_built grounds table kind part site spare room =
    let more : RoomPart = put_in_part (building_on kind part site (table.index * 2 ^ 32 + table.next)) (record (table_part grounds table) { next = table.next + 1 }) in
    ap (λ (p : RoomPart). record p { next = table.next + 1 }) (part_new grounds table (building_on kind part site (table.index * 2 ^ 32 + table.next)))
    ∙ sym (ap (λ (b : Bool). if b then more else table_part grounds table) (lt-ltb table.next (2 ^ 32) room))

module _ (grounds : List Ground) (table : Table) (kind : Kind) (site : Object) where
  abbrev part : RoomPart
  part = table_part grounds table

  abbrev by_test : Bool → RoomPart
  by_test b = if b then with_in_part site part else new_in_part (building_on kind part site) (without_in_part site.id part)

  -- While something is missing, the site stands there.
  pub advanced_missing : HasId site.id table.objects → site.progress < total_of kind → table_part grounds (set_in site table) ≡ advanced kind site (table_part grounds table)
  advanced_missing has below = part_replaced grounds table site has ∙ sym (ap by_test (lt-ltb site.progress (total_of kind) below))

  -- Once nothing is, its building does.
  pub advanced_whole : (spare : ℕ) → table.next < 2 ^ 32 → total_of kind ≤ site.progress
      → table_part grounds (built_in kind (table_part grounds table) site spare (removed site.id table)) ≡ advanced kind site (table_part grounds table)
  advanced_whole spare room whole =
      part_built grounds (removed site.id table) kind part site spare room
      ∙ ap (new_in_part (building_on kind part site)) (part_without grounds table site.id)
      ∙ sym (ap by_test (le-ltb site.progress (total_of kind) whole))
