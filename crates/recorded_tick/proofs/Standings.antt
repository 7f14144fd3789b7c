-- Worlds that are read alike: the record of a tick is the same of both, and a record leads both to worlds that are read alike.
use Rattle.std.proofs.Common.{◌≡◌, ℕ, ◌==◌, ◌<◌, true, false, cond, List, [], ◌∷◌, map, length, Option, Some, unwrap_or, inl, inr, refl, sym, ap, subst, ◌∙◌}
use Rattle.std.specs.List.{AllByRecursion, find}
use Rattle.std.proofs.lemmas.List.{length-map}
use Rattle.room_table.specs.Tables.{Table, without_spare}
use Rattle.object_store.specs.declared.account.Account.{Account}
use Rattle.object_store.specs.declared.world.Room.{Room}
use Rattle.object_store.specs.Stored.{Stored, HasAccount}
use Rattle.intent_book.specs.declared.player_run.PlayerRun.{PlayerRun}
use Rattle.record_follows.specs.Follows.{Follows, after, room_after}
use Rattle.tick_journal.specs.BaseForms.{room_as_read, world_as_read}
use Rattle.tick_journal.specs.TickForms.{tick_as_read}
use Rattle.tick_journal.specs.declared.entries.UploadEntry.{UploadEntry}
use Rattle.tick_journal.specs.declared.tick_record.TickRecord.{TickRecord}
use Rattle.recorded_tick.specs.Recording.{AreChangedAccounts, AreChangedRooms, HaveAsMany, IsRecordOf}
use Rattle.recorded_tick.proofs.Lists.{all_unmapped}

-- ---- the record of a tick

rooms_from : (last before after : List Room) (tables : List Table) → map room_as_read last ≡ map room_as_read before → AreChangedRooms last after tables → AreChangedRooms before after tables
rooms_from [] [] after tables same is = is
rooms_from [] (y ∷ before) after tables same is = absurd (cc)
rooms_from (x ∷ last) [] after tables same is = absurd (cc)
rooms_from (x ∷ last) (y ∷ before) [] tables same is = is
rooms_from (x ∷ last) (y ∷ before) (z ∷ after) tables same is =
    let first : room_as_read x ≡ room_as_read y = cc in
    let later : map room_as_read last ≡ map room_as_read before = cc in
    let alike = ap (λ (room : Room). room.table) first in
    elim is [
      | inl kept ↦ inl (sym alike ∙ kept.0, rooms_from last before after tables later kept.1)
      | inr changed ↦ inr ((λ now. changed.0 (alike ∙ now)), changed.1, changed.2, changed.3, changed.4, rooms_from last before after changed.2 later changed.5)
    ]

module _ (last before : Stored) (same : world_as_read last ≡ world_as_read before) where
  pub rooms_same : map room_as_read last.rooms ≡ map room_as_read before.rooms
  rooms_same = ap (λ (world : Stored). world.rooms) same

  pub as_many_rooms : length last.rooms ≡ length before.rooms
  as_many_rooms = sym (length-map last.rooms room_as_read) ∙ ap length rooms_same ∙ length-map before.rooms room_as_read

  pub as_many_from : (after_it : Stored) → HaveAsMany before after_it → HaveAsMany last after_it
  as_many_from after_it many = record {
    rooms = as_many_rooms ∙ many.rooms;
    accounts = ap (λ (world : Stored). length world.accounts) same ∙ many.accounts;
  }

  pub record_from : (after_it : Stored) (uploads : List UploadEntry) (runs : List PlayerRun) (entry : TickRecord) → IsRecordOf last after_it uploads runs entry → IsRecordOf before after_it uploads runs entry
  record_from after_it uploads runs entry is = record {
    tick = is.tick;
    uploads_are = is.uploads_are;
    runs_are = is.runs_are;
    accounts = subst (λ (accounts : List Account). AreChangedAccounts accounts after_it.accounts entry.accounts) (ap (λ (world : Stored). world.accounts) same) is.accounts;
    rooms = rooms_from last.rooms before.rooms after_it.rooms entry.rooms rooms_same is.rooms;
  }

-- ---- led on by a record

abbrev table_at : List Table → ℕ → Option Table
table_at tables index = find (λ table. table.index == index) tables

room_led : (tables : List Table) (room : Room) → room_as_read (room_after tables room) ≡ room_after (map without_spare tables) (room_as_read room)
room_led [] room = refl
room_led (table ∷ tables) room =
    elim (table.index == room.table.index) as (λ b. room_as_read (record room { table = unwrap_or (cond b (Some table) (table_at tables room.table.index)) room.table })
    ≡ record (room_as_read room) { table = unwrap_or (cond b (Some (without_spare table)) (table_at (map without_spare tables) room.table.index)) (without_spare room.table) }) [
      | true ↦ refl
      | false ↦ room_led tables room
    ]

pub rooms_led : (tables : List Table) (rooms : List Room) → map room_as_read (map (room_after tables) rooms) ≡ map (room_after (map without_spare tables)) (map room_as_read rooms)
rooms_led tables [] = refl
rooms_led tables (room ∷ rooms) = let first = room_led tables room in let rest = rooms_led tables rooms in λ i. first i ∷ rest i

pub led_as_read : (last : Stored) (entry : TickRecord) → world_as_read (after last entry) ≡ after (world_as_read last) (tick_as_read entry)
led_as_read last entry = let rooms = rooms_led entry.rooms last.rooms in λ i. record { tick = entry.tick; rooms = rooms i; accounts = (after last entry).accounts }

pub led_from : (last before : Stored) → world_as_read last ≡ world_as_read before → (entry : TickRecord) (next : Stored) → next ≡ after last entry → world_as_read next ≡ after (world_as_read before) (tick_as_read entry)
led_from last before same entry next is = ap world_as_read is ∙ (led_as_read last entry ∙ ap (λ (world : Stored). after world (tick_as_read entry)) same)

-- ---- what a record that follows asks of a world that is read alike

module _ (last before : Stored) (same : world_as_read last ≡ world_as_read before) (entry : TickRecord) (follows : Follows (world_as_read before) (tick_as_read entry)) where
  own : Follows (world_as_read last) (tick_as_read entry)
  own = subst (λ (world : Stored). Follows world (tick_as_read entry)) (sym same) follows

  pub rooms_there : AllByRecursion (λ (table : Table). table.index < length last.rooms) entry.rooms
  rooms_there =
      let there = all_unmapped (λ (table : Table). table.index < length (map room_as_read last.rooms)) without_spare entry.rooms own.rooms in
      subst (λ n. AllByRecursion (λ (table : Table). table.index < n) entry.rooms) (length-map last.rooms room_as_read) there

  pub accounts_there : AllByRecursion (λ (account : Account). HasAccount account.player last.accounts) entry.accounts
  accounts_there = own.accounts
