-- Worlds that are read alike: what holds of one of them holds of the other.
use Rattle.std.proofs.Common.{◌≡◌, ℕ, ◌+◌, ◌<◌, ◌≤◌, List, [], ◌∷◌, map, length, Option, Some, None, option_map, refl, sym, ap, subst, ◌∙◌}
use Rattle.std.specs.Prelude.{slice_get}
use Rattle.std.specs.List.{AllByRecursion}
use Rattle.std.proofs.lemmas.Option.{slice_get-map}
use Rattle.game_tables.specs.Limits.{most_memory, most_players, most_rooms}
use Rattle.object_store.specs.declared.account.Account.{Account}
use Rattle.object_store.specs.declared.world.Room.{Room}
use Rattle.object_store.specs.Stored.{AreRising, HasAccount, Stored}
use Rattle.room_table.specs.Tables.{IsOnTile, IsRising, Table}
use Rattle.player_run.specs.Admission.{IsAccepted}
use Rattle.rule_check.specs.Kept.{KeepsObjectRules}
use Rattle.world_rules.specs.Rules.{Broken}
use Rattle.world_rules.specs.Sound.{IsSound, IsSoundRoom}
use Rattle.world_rules.specs.World.{listing_of, world_listed, world_of}
use Rattle.hosted_tick.specs.Hosting.{IsHosted}
use Rattle.record_follows.specs.Follows.{Fits, after}
use Rattle.tick_journal.specs.BaseForms.{AreInPlace, room_as_read}
use Rattle.tick_journal.specs.TickForms.{tick_as_read}
use Rattle.tick_journal.specs.declared.entries.RunEntry.{RunEntry}
use Rattle.tick_journal.specs.declared.entries.UploadEntry.{UploadEntry}
use Rattle.tick_journal.specs.declared.tick_record.TickRecord.{TickRecord}
use Rattle.recorded_tick.specs.Recording.{AreReadAlike}
use Rattle.recorded_tick.proofs.Standing.{listing_as_read}
use Rattle.recorded_tick.proofs.Standings.{as_many_rooms, led_as_read}

-- ---- a room as it is read

module _ (P : Room → Type 0) where
  to_read : ((room : Room) → P room → P (room_as_read room)) → (rooms : List Room) → AllByRecursion P rooms → AllByRecursion P (map room_as_read rooms)
  to_read reads [] all = tt
  to_read reads (room ∷ rooms) all = (reads room all.0, to_read reads rooms all.1)

  from_read : ((room : Room) → P (room_as_read room) → P room) → (rooms : List Room) → AllByRecursion P (map room_as_read rooms) → AllByRecursion P rooms
  from_read reads [] all = tt
  from_read reads (room ∷ rooms) all = (reads room all.0, from_read reads rooms all.1)

  -- What is told of rooms as they are read holds of all rooms of both lists.
  all_alike : ((room : Room) → P room → P (room_as_read room)) → ((room : Room) → P (room_as_read room) → P room) → (ones others : List Room) → map room_as_read ones ≡ map room_as_read others
      → AllByRecursion P others → AllByRecursion P ones
  all_alike reads unreads ones others same all = from_read unreads ones (subst (AllByRecursion P) (sym same) (to_read reads others all))

index_of : Room → ℕ
index_of room = room.table.index

abbrev index_at : List Room → ℕ → Option ℕ
index_at rooms k = option_map index_of (slice_get rooms k)

read_index : (found : Option Room) → option_map index_of (option_map room_as_read found) ≡ option_map index_of found
unfolding index_of
read_index None = refl
read_index (Some room) = refl

index_read : (rooms : List Room) (k : ℕ) → index_at (map room_as_read rooms) k ≡ index_at rooms k
index_read rooms k = ap (option_map index_of) (slice_get-map room_as_read rooms k) ∙ read_index (slice_get rooms k)

-- A room of this index stands at it.
place_at : (rooms : List Room) (k i : ℕ) → AreInPlace rooms → (found : Option Room) → slice_get rooms k ≡ found → option_map index_of found ≡ Some i → i ≡ k
unfolding index_of
place_at rooms k i places None is at = absurd (cc)
place_at rooms k i places (Some room) is at = let same : room.table.index ≡ i = cc in sym same ∙ places k room is

module _ (one other : Stored) (same : AreReadAlike one other) where
  rooms_alike : map room_as_read one.rooms ≡ map room_as_read other.rooms
  rooms_alike = ap (λ (world : Stored). world.rooms) same

  accounts_alike : one.accounts ≡ other.accounts
  accounts_alike = ap (λ (world : Stored). world.accounts) same

  pub listings_alike : listing_of one ≡ listing_of other
  listings_alike = sym (listing_as_read one) ∙ (ap listing_of same ∙ listing_as_read other)

  pub worlds_alike : world_of one ≡ world_of other
  worlds_alike = sym (ap world_listed (listing_as_read one)) ∙ (ap world_of same ∙ ap world_listed (listing_as_read other))

  place_alike : AreInPlace other.rooms → AreInPlace one.rooms
  unfolding index_of
  place_alike places k room is =
      place_at other.rooms k room.table.index places (slice_get other.rooms k) refl
      (sym (index_read other.rooms k) ∙ (ap (λ rooms. index_at rooms k) (sym rooms_alike) ∙ (index_read one.rooms k ∙ ap (option_map index_of) is)))

  pub sound_alike : IsSound other → IsSound one
  sound_alike sound = record {
    places = place_alike sound.places;
    tables = all_alike (λ room. IsRising room.table.objects) (λ room rises. rises) (λ room rises. rises) one.rooms other.rooms rooms_alike sound.tables;
    rooms = all_alike IsSoundRoom (λ room is. record { begun = is.begun; tiles = is.tiles }) (λ room is. record { begun = is.begun; tiles = is.tiles }) one.rooms other.rooms rooms_alike sound.rooms;
    accounts = subst AreRising (sym accounts_alike) sound.accounts;
    rules = λ rule n counts sites broken. sound.rules rule n counts sites (subst (Broken rule n) listings_alike broken);
  }

  pub hosted_alike : IsHosted other → IsHosted one
  hosted_alike hosted = record {
    sound = sound_alike hosted.sound;
    rooms = subst (λ n. n ≤ most_rooms) (sym (as_many_rooms one other same)) hosted.rooms;
    players = subst (λ (accounts : List Account). length accounts ≤ most_players) (sym accounts_alike) hosted.players;
    memories = subst (AllByRecursion (λ (account : Account). length account.memory ≤ most_memory)) (sym accounts_alike) hosted.memories;
  }

  pub rules_alike : KeepsObjectRules other → KeepsObjectRules one
  rules_alike keeps = record {
    tiles = all_alike (λ room. AllByRecursion IsOnTile room.table.objects) (λ room on. on) (λ room on. on) one.rooms other.rooms rooms_alike keeps.tiles;
    rules = λ rule n is broken. keeps.rules rule n is (subst (Broken rule n) listings_alike broken);
  }

-- Led on by one record they are read alike again, and what fits behind one fits behind the other.
module _ (one other : Stored) (same : AreReadAlike one other) (entry : TickRecord) where
  pub led_alike : AreReadAlike (after one entry) (after other entry)
  led_alike = led_as_read one entry ∙ (ap (λ (world : Stored). after world (tick_as_read entry)) same ∙ sym (led_as_read other entry))

  abbrev AreAdmitted : List Account → Type 0
  AreAdmitted accounts = AllByRecursion (λ (upload : UploadEntry). upload.result_number ≡ 0 → HasAccount upload.player accounts × IsAccepted upload.bytes) entry.uploads

  pub fits_alike : Fits other entry → Fits one entry
  fits_alike fits =
      let accounts = sym (accounts_alike one other same) in
      record {
        tick = fits.tick ∙ ap (λ (world : Stored). world.tick + 1) (sym same);
        rooms = subst (λ n. AllByRecursion (λ (table : Table). table.index < n) entry.rooms) (sym (as_many_rooms one other same)) fits.rooms;
        runs = subst (λ list. AllByRecursion (λ (run : RunEntry). HasAccount run.player list) entry.runs) accounts fits.runs;
        accounts = subst (λ list. AllByRecursion (λ (account : Account). HasAccount account.player list) entry.accounts) accounts fits.accounts;
        uploads = subst AreAdmitted accounts fits.uploads;
      }
