-- What is written for a world is an accepted file of that world.
use Rattle.std.proofs.Common.{◌≡◌, List, [], ◌∷◌, map, refl, sym, ap, subst, arith, inl, inr}
use Rattle.std.specs.List.{AllByRecursion}
use Rattle.serde_json.specs.Data.{Data, string}
use Rattle.serde_json.specs.View.{items_of}
use Rattle.game_tables.specs.Texts.{kind_text, part_text}
use Rattle.room_terrain.specs.Names.{name_text}
use Rattle.room_table.specs.declared.object.Object.{Object}
use Rattle.object_store.specs.declared.account.Account.{Account}
use Rattle.object_store.specs.declared.world.Room.{Room}
use Rattle.object_store.specs.Stored.{Stored}
use Rattle.world_rules.specs.World.{Listing, listed_room}
use Rattle.world_rules.specs.Rules.{KeepsRules}
use Rattle.world_form.specs.Digits.{ground_digit, hex}
use Rattle.world_form.specs.Facts.{SaysObject, SaysRoom, Player, SaysPlayer, SaysWorld, SayEach}
use Rattle.world_form.specs.Files.{Lists}
use Rattle.world_form.specs.Written.{whole_data, list_data, object_data, room_data, account_data, world_data, written, IsWritable, IsOfTypes, filed_of}
use Rattle.world_form.proofs.Legible.{legible_utf8, legible_read}
use Rattle.world_form.proofs.Written.{IsFiledObject, IsFiledRoom, IsFiledAccount, IsFiledWorld, world_filed, world_legible, world_shallow}
use Rattle.world_form.proofs.Short.{written-IsShort}

-- ---- what the value says

list_said : {A B : Type 0} (P : A → Type 0) (Says : Data → B → Type 0) (data_of : A → Data) (said_of : A → B) → ((x : A) → P x → Says (data_of x) (said_of x))
    → (xs : List A) → AllByRecursion P xs → SayEach Says (items_of (map data_of xs)) (map said_of xs)
list_said P Says data_of said_of says [] all = tt
list_said P Says data_of said_of says (x ∷ xs) all = (says x all.0, list_said P Says data_of said_of says xs all.1)

object_said : (o : Object) → IsFiledObject o → SaysObject (object_data o) o
unfolding object_data
object_said o filed =
    let fits = filed.0 in
    let small = fits.small in
    let tile = filed.1 in
    record {
      id = (whole_data o.id, refl, (refl, fits.id_low, fits.id));
      kind = (string (kind_text o.kind), refl, refl);
      in_rules = small.in_rules;
      x = (whole_data o.x, refl, (refl, omega arith, tile.column));
      y = (whole_data o.y, refl, (refl, omega arith, tile.row));
      owner = inl (whole_data o.owner, refl, (refl, omega arith, fits.owner));
      body = inl (list_data (λ part. string (part_text part)) o.body, refl, (refl, small.body));
      hits = inl (whole_data o.hits, refl, (refl, omega arith, small.hits));
      energy = inl (whole_data o.energy, refl, (refl, omega arith, small.energy));
      timer = inl (whole_data o.timer, refl, (refl, omega arith, small.timer));
      extra = inl (whole_data o.extra, refl, (refl, omega arith, small.extra));
      progress = inl (whole_data o.progress, refl, (refl, omega arith, small.progress));
      other = inl (whole_data o.other, refl, (refl, omega arith, fits.other));
      other_ticks = inl (whole_data o.other_ticks, refl, (refl, omega arith, small.other_ticks));
    }

objects_said : (objects : List Object) → AllByRecursion IsFiledObject objects → SayEach SaysObject (items_of (map object_data objects)) objects
objects_said [] filed = tt
objects_said (o ∷ objects) filed = (object_said o filed.0, objects_said objects filed.1)

room_said : (room : Room) → IsFiledRoom room → SaysRoom (room_data room) (listed_room room)
unfolding room_data
room_said room filed =
    let writable = filed.writable in
    record {
      name = (string (name_text room.name), refl, (name_text room.name, refl, record { in_range = writable.name; spelled = refl }));
      terrain = (string (map ground_digit room.terrain), refl, (refl, filed.grounds));
      next = (whole_data room.table.next, refl, (refl, writable.next, omega (arith, writable.below)));
      objects = (list_data object_data room.table.objects, refl, (items_of (map object_data room.table.objects), refl, objects_said room.table.objects filed.objects));
    }

-- a player as a world knows him
abbrev untold : Account → Player
untold account = record { account = account; token = [] }

player_said : (account : Account) → IsFiledAccount account → SaysPlayer (account_data account) (untold account)
unfolding account_data
player_said account filed =
    let writable = filed.writable in
    record {
      number = (whole_data account.player, refl, (refl, writable.player, omega (arith, writable.below)));
      token = inr (refl, refl);
      limit = (whole_data account.limit, refl, (refl, omega arith, writable.limit));
      bucket = inl (whole_data account.bucket, refl, (refl, omega arith, writable.bucket));
      points = inl (whole_data account.points, refl, (refl, omega arith, writable.points));
      memory = inl (string (hex account.memory), refl, (refl, writable.memory, filed.bytes));
    }

world_said : (world : Stored) → IsFiledWorld world → SaysWorld (world_data world) (filed_of world)
unfolding world_data
world_said world filed = record {
  version = (whole_data 1, refl, (refl, omega arith, omega arith));
  tick = (whole_data world.tick, refl, (refl, omega arith, filed.tick));
  rooms = (list_data room_data world.rooms, refl, (items_of (map room_data world.rooms), refl, list_said IsFiledRoom SaysRoom room_data listed_room room_said world.rooms filed.rooms));
  players = inl (list_data account_data world.accounts, refl, (items_of (map account_data world.accounts), refl, list_said IsFiledAccount SaysPlayer account_data untold player_said world.accounts filed.accounts));
}

-- ---- what the bytes list

accounts_same : (accounts : List Account) → map (λ (player : Player). player.account) (map untold accounts) ≡ accounts
accounts_same [] = refl
accounts_same (account ∷ accounts) = ap (λ (rest : List Account). account ∷ rest) (accounts_same accounts)

abbrev with_accounts : Stored → List Account → Listing
with_accounts world accounts = record { rules = 1; tick = world.tick; rooms = map listed_room world.rooms; accounts = accounts }

-- what is written for a world that keeps the rules is an accepted file of that world
pub written-Lists : (world : Stored) → IsWritable world → IsOfTypes world → Lists (written world) (filed_of world)
written-Lists world writable types =
    let filed = world_filed world writable types in
    let legible = world_legible world filed in
    let read = legible_read (world_data world) legible (omega (arith, world_shallow world)) in
    let keeps = subst (λ accounts. KeepsRules (with_accounts world accounts)) (sym (accounts_same world.accounts)) writable.rules in
    ((world_data world, (written-IsShort world writable types, (legible_utf8 (world_data world) legible, read)), world_said world filed), keeps)
