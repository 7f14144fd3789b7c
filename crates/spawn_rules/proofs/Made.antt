-- A new object in a room's part.
use Rattle.std.proofs.Common.{◌≡◌, ℕ, ◌+◌, ◌*◌, ◌^◌, ◌<◌, Bool, if◌then◌else◌, List, sym, ap, ◌∙◌}
use Rattle.std.specs.FinMap.{insert}
use Rattle.std.proofs.lemmas.Bool.{lt-ltb}
use Rattle.room_terrain.specs.declared.terrain.Ground.{Ground}
use Rattle.room_table.specs.declared.object.Object.{Object}
use Rattle.room_table.specs.Tables.{Table, with_new}
use Rattle.world_rules.specs.RoomParts.{RoomPart, table_part}
use Rattle.world_rules.specs.Changes.{with_new as new_in_part}
use Rattle.world_rules.proofs.TableParts.{part_new}

pub part_made : (grounds : List Ground) (table : Table) (make : ℕ → Object) (spare : ℕ) → table.next < 2 ^ 32 → (make (table.index * 2 ^ 32 + table.next)).id ≡ table.index * 2 ^ 32 + table.next
    → table_part grounds (record table { next = table.next + 1; objects = with_new (make (table.index * 2 ^ 32 + table.next)) table.objects; spare = spare }) ≡ new_in_part make (table_part grounds table)
part_made grounds table make spare room own =
    let id : ℕ = table.index * 2 ^ 32 + table.next in
    let part : RoomPart = table_part grounds table in
    let more : RoomPart = record part { next = table.next + 1; objects = insert part.objects id (make id) } in
    ap (λ (p : RoomPart). record p { next = table.next + 1 }) (part_new grounds table (make id))
    ∙ (λ i. record part { next = table.next + 1; objects = insert part.objects (own i) (make id) })
    ∙ sym (ap (λ (b : Bool). if b then more else part) (lt-ltb table.next (2 ^ 32) room))
