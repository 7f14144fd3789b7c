-- The text of a world that keeps the rules is shorter than a file may be.
use Rattle.std.proofs.Common.{◌≡◌, ℕ, suc, ◌+◌, ◌*◌, ◌≤◌, ℤ, pos, negsuc, List, [], ◌∷◌, length, map, arith, length-append}
use Rattle.std.specs.List.{AllByRecursion}
use Rattle.std.proofs.lemmas.Fmt.{length-decimal-le}
use Rattle.std.proofs.lemmas.List.{length-map}
use Rattle.serde_json.specs.Data.{string}
use Rattle.serde_json.specs.View.{items_of}
use Rattle.game_tables.specs.declared.kind.Kind.{Kind}
use Rattle.game_tables.specs.declared.kind.Kind.TheVariants as kinds
use Rattle.game_tables.specs.declared.kind.Part.{Part}
use Rattle.game_tables.specs.declared.kind.Part.TheVariants as parts
use Rattle.game_tables.specs.Bodies.{most_parts}
use Rattle.game_tables.specs.Limits.{most_memory, most_rooms, most_objects, most_players}
use Rattle.game_tables.specs.Texts.{kind_text, part_text}
use Rattle.room_terrain.specs.declared.name.RoomName.{RoomName}
use Rattle.room_terrain.specs.Names.{IsSideInRange, IsInRange, side_text, name_text}
use Rattle.room_table.specs.declared.object.Object.{Object}
use Rattle.object_store.specs.declared.account.Account.{Account}
use Rattle.object_store.specs.declared.world.Room.{Room}
use Rattle.object_store.specs.Stored.{Stored}
use Rattle.world_rules.specs.World.{Placed, placed, placed_from, listed_room, listing_of}
use Rattle.world_form.specs.Digits.{ground_digit}
use Rattle.world_form.specs.Files.{IsShort}
use Rattle.world_form.specs.Written.{object_data, room_data, account_data, world_data, written, IsWritable, IsOfTypes}
use Rattle.world_form.proofs.Clear.{length-hex}
use Rattle.world_form.proofs.InFile.{few_rooms, few_objects, few_players}
use Rattle.world_form.proofs.Sizes.{size, items_size, length-compact_text, list_short}
use Rattle.world_form.proofs.Written.{IsFiledObject, IsFiledRoom, IsFiledAccount, world_filed, world_legible}

-- ---- texts

kind_short : (kind : Kind) → length (kind_text kind) ≤ 10
kind_short kinds.Source = omega arith
kind_short kinds.Controller = omega arith
kind_short kinds.Creep = omega arith
kind_short kinds.Spawn = omega arith
kind_short kinds.Extension = omega arith
kind_short kinds.Storage = omega arith
kind_short kinds.Container = omega arith
kind_short kinds.Road = omega arith
kind_short kinds.Pile = omega arith
kind_short kinds.Site = omega arith
kind_short kinds.Tower = omega arith
kind_short kinds.Rampart = omega arith
kind_short kinds.Wall = omega arith
kind_short kinds.Tombstone = omega arith

part_short : (part : Part) → length (part_text part) ≤ 13
part_short parts.Move = omega arith
part_short parts.Work = omega arith
part_short parts.Carry = omega arith
part_short parts.Attack = omega arith
part_short parts.RangedAttack = omega arith
part_short parts.Tough = omega arith
part_short parts.Heal = omega arith
part_short parts.Claim = omega arith

side_short : (before after : ℕ) (side : ℤ) → IsSideInRange side → length (side_text before after side) ≤ 4
side_short before after (pos n) low = let digits = length-decimal-le 3 n (omega arith) (omega arith) (omega arith) in omega arith
side_short before after (negsuc n) low = let digits = length-decimal-le 3 n (omega arith) (omega arith) (omega arith) in omega arith

name_short : (name : RoomName) → IsInRange name → length (name_text name) ≤ 8
name_short name within =
    let column = side_short 87 69 name.column within.column in
    let row = side_short 78 83 name.row within.row in
    omega (arith, length-append (side_text 87 69 name.column) (side_text 78 83 name.row))

-- ---- parts

body_short : (body : List Part) → items_size (items_of (map (λ part. string (part_text part)) body)) ≤ 16 * length body
body_short [] = omega arith
body_short (part ∷ body) = let here = part_short part in let rest = body_short body in omega arith

object_short : (o : Object) → IsFiledObject o → size (object_data o) ≤ 1200
unfolding object_data
object_short o filed =
    let few : length o.body ≤ most_parts = filed.0.small.body in
    let body = body_short o.body in
    let kind = kind_short o.kind in
    omega arith

room_short : (room : Room) → IsFiledRoom room → size (room_data room) ≤ 2600 + 1201 * length room.table.objects
unfolding room_data
room_short room filed =
    let name = name_short room.name filed.writable.name in
    let terrain : length (map ground_digit room.terrain) ≡ length room.terrain = length-map room.terrain ground_digit in
    let all : length room.terrain ≡ 2500 = filed.grounds in
    let objects = list_short IsFiledObject object_data 1200 object_short room.table.objects filed.objects in
    omega arith

account_short : (account : Account) → IsFiledAccount account → size (account_data account) ≤ 131300
unfolding account_data
account_short account filed =
    let few : length account.memory ≤ most_memory = filed.writable.memory in
    let digits = length-hex account.memory in
    omega arith

-- ---- the world

rooms_short : (index : ℕ) (rooms : List Room) → AllByRecursion IsFiledRoom rooms → items_size (items_of (map room_data rooms)) ≤ 2601 * length rooms + 1201 * length (placed_from index (map listed_room rooms))
rooms_short index [] filed = omega arith
rooms_short index (room ∷ rooms) filed =
    let tagged : Object → ℕ × Placed = λ o. (o.id, record { room = index; object = o }) in
    let here = room_short room filed.0 in
    let rest = rooms_short (suc index) rooms filed.1 in
    let objects : length (map tagged room.table.objects) ≡ length room.table.objects = length-map room.table.objects tagged in
    let all = length-append (map tagged room.table.objects) (placed_from (suc index) (map listed_room rooms)) in
    omega arith

-- the text of a world that keeps the rules is no longer than a file may be
pub written-IsShort : (world : Stored) → IsWritable world → IsOfTypes world → IsShort (written world)
unfolding world_data
written-IsShort world writable types =
    let filed = world_filed world writable types in
    let text = length-compact_text (world_data world) (world_legible world filed) in
    let rooms = rooms_short 0 world.rooms filed.rooms in
    let players = list_short IsFiledAccount account_data 131300 account_short world.accounts filed.accounts in
    let listed : length (map listed_room world.rooms) ≡ length world.rooms = length-map world.rooms listed_room in
    let some_rooms : length (map listed_room world.rooms) ≤ most_rooms = few_rooms (listing_of world) writable.rules in
    let some_objects : length (placed (listing_of world)) ≤ most_objects = few_objects (listing_of world) writable.rules in
    let some_players : length world.accounts ≤ most_players = few_players (listing_of world) writable.rules in
    omega arith
