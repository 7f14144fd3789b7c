-- The record of a tick leads from the world before to the world after.
use Rattle.std.proofs.Common.{◌≡◌, ℕ, suc, ◌+◌, ◌<◌, List, [], ◌∷◌, map, length, Some, slice_get, refl, sym, ap, ◌∙◌, arith}
use Rattle.std.specs.List.{AllByRecursion}
use Rattle.std.proofs.lemmas.List.{length-map}
use Rattle.object_store.proofs.Accounts.{rises_from_accounts}
use Rattle.room_table.proofs.Rising.{Rises}
use Rattle.room_table.specs.Tables.{Table, without_spare}
use Rattle.object_store.specs.declared.account.Account.{Account}
use Rattle.object_store.specs.declared.world.Room.{Room}
use Rattle.object_store.specs.Stored.{AreRising, Stored}
use Rattle.intent_book.specs.declared.player_run.PlayerRun.{PlayerRun}
use Rattle.world_rules.specs.Sound.{IsSound}
use Rattle.world_rules.specs.Tick.{next_world}
use Rattle.world_rules.specs.World.{world_of}
use Rattle.record_follows.specs.Follows.{account_after, after, room_after}
use Rattle.tick_journal.specs.BaseForms.{AreInPlace, room_as_read, world_as_read}
use Rattle.tick_journal.specs.TickForms.{tick_as_read}
use Rattle.tick_journal.specs.declared.entries.UploadEntry.{UploadEntry}
use Rattle.tick_journal.specs.declared.tick_record.TickRecord.{TickRecord}
use Rattle.recorded_tick.specs.Recording.{HaveAsMany, IsRecordOf, ground_of}
use Rattle.recorded_tick.proofs.Grounds.{grounds_stay}
use Rattle.recorded_tick.proofs.Picked.{accounts_picked, bare_table, picked_put, put, rooms_picked}
use Rattle.recorded_tick.proofs.Players.{players_are}

abbrev pub index_of : Table → ℕ
index_of table = table.index

abbrev pub player_of : Account → ℕ
player_of account = account.player

-- ---- rooms in their places

-- The rooms stand in their places from one on.
abbrev pub StandFrom : ℕ → List Room → Type 0
StandFrom n rooms = (k : ℕ) (room : Room) → slice_get rooms k ≡ Some room → room.table.index ≡ n + k

later_stand : (n : ℕ) (room : Room) (rooms : List Room) → StandFrom n (room ∷ rooms) → StandFrom (suc n) rooms
later_stand n room rooms stand k other is = let at = stand (suc k) other is in omega (arith, at)

stand_above : (m n : ℕ) (rooms : List Room) → m < n → StandFrom n rooms → AllByRecursion (λ table. m < index_of table) (map bare_table rooms)
stand_above m n [] less stand = tt
stand_above m n (room ∷ rooms) less stand =
    let at = stand 0 room refl in
    (omega (arith, at, less), stand_above m (suc n) rooms (omega (arith, less)) (later_stand n room rooms stand))

stand_rise : (n : ℕ) (rooms : List Room) → StandFrom n rooms → Rises index_of (map bare_table rooms)
stand_rise n [] stand = tt
stand_rise n (room ∷ rooms) stand =
    let at = stand 0 room refl in
    (stand_above room.table.index (suc n) rooms (omega (arith, at)) (later_stand n room rooms stand), stand_rise (suc n) rooms (later_stand n room rooms stand))

same_indices : (n : ℕ) (before after : List Room) → length before ≡ length after → StandFrom n before → StandFrom n after → map index_of (map bare_table before) ≡ map index_of (map bare_table after)
same_indices n [] [] many stand stands = refl
same_indices n [] (y ∷ after) many stand stands = absurd (omega (arith, many))
same_indices n (x ∷ before) [] many stand stands = absurd (omega (arith, many))
same_indices n (x ∷ before) (y ∷ after) many stand stands =
    let one = stand 0 x refl in
    let other = stands 0 y refl in
    let first : x.table.index ≡ y.table.index = omega (arith, one, other) in
    let rest = same_indices (suc n) before after (omega (arith, many)) (later_stand n x before stand) (later_stand n y after stands) in
    λ i. first i ∷ rest i

pub stand_at : (rooms : List Room) → AreInPlace rooms → StandFrom 0 rooms
stand_at rooms places k room is = let at = places k room is in omega (arith, at)

pub tables_rise : (rooms : List Room) → AreInPlace rooms → Rises index_of (map bare_table rooms)
tables_rise rooms places = stand_rise 0 rooms (stand_at rooms places)

-- ---- rooms and accounts after

room_put : (tables : List Table) (before after : List Room) → map ground_of before ≡ map ground_of after → map (put index_of tables) (map bare_table before) ≡ map bare_table after
    → map (room_after tables) (map room_as_read before) ≡ map room_as_read after
room_put tables [] [] grounds is = refl
room_put tables [] (y ∷ after) grounds is = absurd (cc)
room_put tables (x ∷ before) [] grounds is = absurd (cc)
room_put tables (x ∷ before) (y ∷ after) grounds is =
    let ground : ground_of x ≡ ground_of y = cc in
    let others : map ground_of before ≡ map ground_of after = cc in
    let table : put index_of tables (bare_table x) ≡ bare_table y = cc in
    let later : map (put index_of tables) (map bare_table before) ≡ map bare_table after = cc in
    let rest = room_put tables before after others later in
    λ i. record { name = (ground i).0; terrain = (ground i).1; table = table i } ∷ rest i

pub as_many_rooms : (before after : List Room) → map ground_of before ≡ map ground_of after → length before ≡ length after
as_many_rooms before after grounds = sym (length-map before ground_of) ∙ ap length grounds ∙ length-map after ground_of

pub as_many_accounts : (before after : List Account) → map player_of before ≡ map player_of after → length before ≡ length after
as_many_accounts before after players = sym (length-map before player_of) ∙ ap length players ∙ length-map after player_of

-- What is recorded between two worlds of the same rooms and players leads from one to the other.
module _ (before after_it : Stored) (grounds : map ground_of before.rooms ≡ map ground_of after_it.rooms) (players : map player_of before.accounts ≡ map player_of after_it.accounts)
    (places : AreInPlace before.rooms) (places_after : AreInPlace after_it.rooms) (rising : AreRising after_it.accounts)
    (uploads : List UploadEntry) (runs : List PlayerRun) (entry : TickRecord) (recorded : IsRecordOf before after_it uploads runs entry) where
  rooms_lead : map (room_after (map without_spare entry.rooms)) (map room_as_read before.rooms) ≡ map room_as_read after_it.rooms
  rooms_lead =
      room_put (map without_spare entry.rooms) before.rooms after_it.rooms grounds
      (picked_put index_of (map bare_table before.rooms) (map bare_table after_it.rooms) (map without_spare entry.rooms)
      (same_indices 0 before.rooms after_it.rooms (as_many_rooms before.rooms after_it.rooms grounds) (stand_at before.rooms places) (stand_at after_it.rooms places_after)) (tables_rise after_it.rooms places_after)
      (rooms_picked before.rooms after_it.rooms entry.rooms recorded.rooms))

  accounts_lead : map (account_after entry.accounts) before.accounts ≡ after_it.accounts
  accounts_lead =
      picked_put player_of before.accounts after_it.accounts entry.accounts players (rises_from_accounts after_it.accounts rising)
      (accounts_picked before.accounts after_it.accounts entry.accounts recorded.accounts)

  pub leads_between : after (world_as_read before) (tick_as_read entry) ≡ world_as_read after_it
  leads_between = let tick = recorded.tick in λ i. record { tick = tick i; rooms = rooms_lead i; accounts = accounts_lead i }

module _ (before after_it : Stored) (runs : List PlayerRun) (sound : IsSound before) (well : IsSound after_it) (is : world_of after_it ≡ next_world (world_of before) runs) where
  pub many : HaveAsMany before after_it
  many = record {
    rooms = as_many_rooms before.rooms after_it.rooms (grounds_stay before after_it runs is);
    accounts = as_many_accounts before.accounts after_it.accounts (players_are before after_it runs sound.accounts well.accounts is);
  }

  pub leads : (uploads : List UploadEntry) (entry : TickRecord) → IsRecordOf before after_it uploads runs entry → after (world_as_read before) (tick_as_read entry) ≡ world_as_read after_it
  leads uploads entry recorded =
      leads_between before after_it (grounds_stay before after_it runs is) (players_are before after_it runs sound.accounts well.accounts is) sound.places well.places well.accounts uploads runs entry recorded
