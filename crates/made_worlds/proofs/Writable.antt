-- A generated world is sound, and its text is read back as that world.
use Rattle.std.proofs.Common.{◌≡◌, ℕ, ◌+◌, ◌*◌, ◌<◌, ◌≤◌, List, [], ◌∷◌, length, map, Some, refl, ap, sym, ◌∙◌, arith, lit≤}
use Rattle.std.specs.Prelude.{slice_get}
use Rattle.std.specs.List.{AllByRecursion}
use Rattle.object_store.specs.Stored.{HaveRisingTables, Stored}
use Rattle.room_table.specs.Tables.{IsRising}
use Rattle.object_store.specs.declared.account.Account.{Account}
use Rattle.object_store.specs.declared.world.Room.{Room}
use Rattle.room_terrain.specs.Geometry.{Mirrors}
use Rattle.room_terrain.specs.Tiles.{tile}
use Rattle.world_rules.specs.Sound.{IsSound, IsSoundRoom}
use Rattle.world_rules.specs.World.{listed_room, world_listed, world_of}
use Rattle.world_form.specs.Facts.{Player}
use Rattle.world_form.specs.Files.{WorldForm}
use Rattle.world_form.specs.Written.{IsOfTypes, IsWritable, IsWritableRoom, filed_of, written}
use Rattle.world_form.proofs.ReadBack.{written-Lists}
use Rattle.world_gen.specs.Generator.{draw, generated, made_table, players_of, rooms_from, state_after}
use Rattle.made_worlds.proofs.Grounds.{exits_meet as grounds_meet, grounds_long}
use Rattle.made_worlds.proofs.Kept.{keeps_rules}
use Rattle.made_worlds.proofs.Names.{in_range}
use Rattle.made_worlds.proofs.Objects.{all_on_tiles, ids_rise}
use Rattle.made_worlds.proofs.Places.{all_made, at_place}
use Rattle.made_worlds.proofs.Players.{accounts_rise, accounts_writable, memories_are_bytes}
use Rattle.made_worlds.proofs.Views.{room_of}

-- ---- rooms

table_is : (players room u v : ℕ) → ((made_table players room u v).index ≡ room) × ((made_table players room u v).next ≡ 5)
unfolding made_table
table_is players room u v = (refl, refl)

room_table : (seed players index : ℕ) → ((room_of seed players index).table.index ≡ index) × ((room_of seed players index).table.next ≡ 5)
room_table seed players index =
    table_is players index (draw (state_after seed (2306 * index)) 2304) (draw (state_after seed (2306 * index)) 2305)

writable_room : (seed players index : ℕ) → index < 400 → IsWritableRoom (room_of seed players index)
writable_room seed players index less =
    let next : (room_of seed players index).table.next ≡ 5 = (room_table seed players index).1 in
    record {
      name = in_range index less;
      next = omega arith;
      below = omega arith;
      objects = all_on_tiles players index (draw (state_after seed (2306 * index)) 2304) (draw (state_after seed (2306 * index)) 2305);
    }

sound_room : (seed players index : ℕ) → IsSoundRoom (room_of seed players index)
sound_room seed players index =
    let next : (room_of seed players index).table.next ≡ 5 = (room_table seed players index).1 in
    record {
      begun = omega arith;
      tiles = all_on_tiles players index (draw (state_after seed (2306 * index)) 2304) (draw (state_after seed (2306 * index)) 2305);
    }

writable_rooms : (seed players rooms : ℕ) → rooms ≤ 400 → AllByRecursion IsWritableRoom (rooms_from seed players rooms)
unfolding rooms_from
writable_rooms seed players rooms most =
    all_made IsWritableRoom (room_of seed players) 0 rooms (λ index low less. writable_room seed players index (omega arith))

sound_rooms : (seed players rooms : ℕ) → AllByRecursion IsSoundRoom (rooms_from seed players rooms)
unfolding rooms_from
sound_rooms seed players rooms =
    all_made IsSoundRoom (room_of seed players) 0 rooms (λ index low less. sound_room seed players index)

rising_tables : (seed players rooms : ℕ) → HaveRisingTables (rooms_from seed players rooms)
unfolding rooms_from
rising_tables seed players rooms =
    all_made (λ (room : Room). IsRising room.table.objects) (room_of seed players) 0 rooms
    (λ index low less. ids_rise players index (draw (state_after seed (2306 * index)) 2304) (draw (state_after seed (2306 * index)) 2305))

full_grounds : (seed players rooms : ℕ) → AllByRecursion (λ (room : Room). length room.terrain ≡ 2500) (rooms_from seed players rooms)
unfolding rooms_from
full_grounds seed players rooms =
    all_made (λ (room : Room). length room.terrain ≡ 2500) (room_of seed players) 0 rooms
    (λ index low less. grounds_long (state_after seed (2306 * index)))

in_place : (seed players rooms index : ℕ) (room : Room)
    → slice_get (rooms_from seed players rooms) index ≡ Some room → room.table.index ≡ index
unfolding rooms_from
in_place seed players rooms index room is =
    let here = at_place (room_of seed players) 0 rooms index room is in
    ap (λ (r : Room). r.table.index) (sym here.1) ∙ (room_table seed players (0 + index)).0
    ∙ (let same : 0 + index ≡ index = omega arith in same)

pub exits_meet : (seed rooms i j x y v w : ℕ) (one other : Room)
    → slice_get (generated seed rooms).rooms i ≡ Some one → slice_get (generated seed rooms).rooms j ≡ Some other
    → Mirrors one.name x y other.name v w
    → slice_get one.terrain (tile x y) ≡ slice_get other.terrain (tile v w)
unfolding rooms_from
exits_meet seed rooms i j x y v w one other here there mirrors =
    let first = at_place (room_of seed (players_of rooms)) 0 rooms i one here in
    let second = at_place (room_of seed (players_of rooms)) 0 rooms j other there in
    ap (λ (r : Room). slice_get r.terrain (tile x y)) (sym first.1)
    ∙ grounds_meet (state_after seed (2306 * (0 + i))) (state_after seed (2306 * (0 + j))) x y v w one.name other.name mirrors
    ∙ ap (λ (r : Room). slice_get r.terrain (tile v w)) second.1

-- ---- worlds

sound : (seed rooms : ℕ) → 1 ≤ rooms → rooms ≤ 400 → IsSound (generated seed rooms)
sound seed rooms some most = record {
  places = in_place seed (players_of rooms) rooms;
  tables = rising_tables seed (players_of rooms) rooms;
  rooms = sound_rooms seed (players_of rooms) rooms;
  accounts = accounts_rise (players_of rooms);
  rules = λ rule n counts sites. keeps_rules seed rooms some most rule n;
}

pub writable : (seed rooms : ℕ) → 1 ≤ rooms → rooms ≤ 400 → IsWritable (generated seed rooms)
writable seed rooms some most = record {
  tick = lit≤ tt;
  rooms = writable_rooms seed (players_of rooms) rooms most;
  accounts = accounts_writable (players_of rooms) (omega arith);
  sound = sound seed rooms some most;
  rules = keeps_rules seed rooms some most;
}

pub of_types : (seed rooms : ℕ) → IsOfTypes (generated seed rooms)
of_types seed rooms = record {
  grounds = full_grounds seed (players_of rooms) rooms;
  bytes = memories_are_bytes (players_of rooms);
}

-- ---- their text

same_accounts : (accounts : List Account)
    → accounts ≡ map (λ player. player.account) (map (λ account. let p : Player = record { account = account; token = [] } in p) accounts)
same_accounts [] = refl
same_accounts (account ∷ accounts) = ap (λ (rest : List Account). account ∷ rest) (same_accounts accounts)

-- the world that a text says is the one for which it is written
pub read_back : (world : Stored) → IsWritable world → IsOfTypes world → WorldForm (written world) (world_of world)
read_back world is types = (
  filed_of world,
  written-Lists world is types,
  ap (λ (accounts : List Account). world_listed (record { rules = 1; tick = world.tick; rooms = map listed_room world.rooms; accounts = accounts }))
      (same_accounts world.accounts),
)

pub accepted : (seed rooms : ℕ) → 1 ≤ rooms → rooms ≤ 400
    → WorldForm (written (generated seed rooms)) (world_of (generated seed rooms))
accepted seed rooms some most =
    read_back (generated seed rooms) (writable seed rooms some most) (of_types seed rooms)
