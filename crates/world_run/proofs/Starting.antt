-- A world that a file says may be started from.
use Rattle.std.proofs.Common.{◌≡◌, ℕ, ◌≤◌, List, [], ◌∷◌, length, map, Option, Some, None, option_map, refl, sym, ap, ◌∙◌, arith}
use Rattle.std.specs.Prelude.{slice_get}
use Rattle.std.specs.List.{AllByRecursion}
use Rattle.std.proofs.lemmas.List.{length-map}
use Rattle.std.proofs.lemmas.Option.{slice_get-map}
use Rattle.game_tables.specs.Limits.{most_memory}
use Rattle.object_store.specs.declared.account.Account.{Account}
use Rattle.object_store.specs.declared.world.Room.{Room}
use Rattle.object_store.specs.Stored.{Stored}
use Rattle.room_table.specs.Tables.{Table, without_spare}
use Rattle.recorded_tick.proofs.Lists.{all_with}
use Rattle.recorded_tick.proofs.Picked.{bare_table}
use Rattle.recorded_tick.proofs.Standing.{account_form}
use Rattle.recorded_tick.proofs.Tables.{IsListed, room_form, tables_listed}
use Rattle.rule_check.specs.Kept.{AreOnTiles}
use Rattle.tick_journal.specs.BaseForms.{AreInPlace, HasBaseForm, HasBaseRoomForm, room_as_read, world_as_read}
use Rattle.tick_journal.specs.Numbers.{WorldFits}
use Rattle.world_bytes.specs.Forms.{HasAccountForm}
use Rattle.world_bytes.specs.Numbers.{AccountFits, TableFits}
use Rattle.world_form.specs.Written.{IsWritable, IsWritableAccount, IsWritableRoom}
use Rattle.world_rules.specs.declared.rule.Rule.TheVariants.{Counts, Sites}
use Rattle.world_rules.specs.World.{listed_room}
use Rattle.world_run.specs.inner.Held.{HaveTiles, MayStart}
use Rattle.world_run.proofs.Hosts.{writable_hosted}

table_fits : (table : Table) → TableFits table → TableFits (without_spare table)
table_fits table fit = record { index = fit.index; next = fit.next; count = fit.count; objects = fit.objects }

room_has : (room : Room) → IsWritableRoom room → length room.terrain ≡ 2500 → IsListed (without_spare room.table) → TableFits room.table → HasBaseRoomForm (room_as_read room)
room_has room is tiles listed fit = record {
  name = is.name;
  tiles = tiles;
  objects = room_form (without_spare room.table) listed (table_fits room.table fit);
  full = refl;
}

rooms_have : (rooms : List Room) → AllByRecursion IsWritableRoom rooms → HaveTiles rooms → AllByRecursion IsListed (map bare_table rooms) → AllByRecursion (λ room. TableFits room.table) rooms → AllByRecursion HasBaseRoomForm (map room_as_read rooms)
rooms_have [] is tiles listed fit = tt
rooms_have (room ∷ rooms) is tiles listed fit = (room_has room is.0 tiles.0 listed.0 fit.0, rooms_have rooms is.1 tiles.1 listed.1 fit.1)

read_at : (found : Option Room) (read : Room) → option_map room_as_read found ≡ Some read → (room : Room) × (found ≡ Some room) × (room.table.index ≡ read.table.index)
read_at None read is = absurd cc
read_at (Some room) read is =
    let same : room_as_read room ≡ read = cc in
    (room, refl, ap (λ (r : Room). r.table.index) same)

in_place : (rooms : List Room) → AreInPlace rooms → AreInPlace (map room_as_read rooms)
in_place rooms places place read at =
    let found = read_at (slice_get rooms place) read (sym (slice_get-map room_as_read rooms place) ∙ at) in
    sym found.2 ∙ places place found.0 found.1

tiles_under : (rooms : List Room) → AllByRecursion IsWritableRoom rooms → AreOnTiles rooms
tiles_under [] is = tt
tiles_under (room ∷ rooms) is = (is.0.objects, tiles_under rooms is.1)

first_players : (accounts : List Account) → AllByRecursion IsWritableAccount accounts → AllByRecursion (λ account. 1 ≤ account.player) accounts
first_players [] is = tt
first_players (account ∷ accounts) is = (is.0.player, first_players accounts is.1)

-- Nothing is 0 that can't be.
not_none : (n : ℕ) → (n ≡ 0 → ⊥) → 1 ≤ n
not_none n some = grind (arith, some)

begins : (world : Stored) → IsWritable world → HaveTiles world.rooms → WorldFits world → HasBaseForm (world_as_read world)
begins world is tiles fit =
    let hosted = writable_hosted world is in
    let many : length (map room_as_read world.rooms) ≡ length world.rooms = length-map world.rooms room_as_read in
    let counted : length (map listed_room world.rooms) ≡ length world.rooms = length-map world.rooms listed_room in
    let some : 1 ≤ length world.rooms = not_none (length world.rooms) (λ none. is.rules Counts 0 (refl, λ within. let one : 1 ≤ length (map listed_room world.rooms) = within.some in omega (arith, one, none, counted))) in
    let few = hosted.rooms in
    record {
      tick = is.tick;
      rooms = record {
        some = omega (arith, some, many);
        most = omega (arith, few, many);
        forms = rooms_have world.rooms is.rooms tiles (tables_listed world is.sound) fit.rooms;
        places = in_place world.rooms is.sound.places;
      };
      accounts = record {
        most = hosted.players;
        forms = record {
          rising = is.sound.accounts;
          forms = all_with (λ (account : Account). length account.memory ≤ most_memory) AccountFits HasAccountForm account_form world.accounts hosted.memories fit.accounts;
          count = fit.accounts_count;
        };
        from_one = first_players world.accounts is.accounts;
      };
    }

pub may_start : (world : Stored) → IsWritable world → HaveTiles world.rooms → MayStart world
may_start world is tiles = record {
  tick = is.tick;
  hosted = writable_hosted world is;
  few = is.rules Sites;
  begins = record {
    form = begins world is tiles;
    rules = record { tiles = tiles_under world.rooms is.rooms; rules = λ rule n other. is.rules rule n };
  };
}
