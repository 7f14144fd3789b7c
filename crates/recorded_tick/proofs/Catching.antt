-- What is recorded between two worlds of the same rooms and players may be put into the first, and makes it one that is read as the second.
use Rattle.std.proofs.Common.{◌≡◌, ◌<◌, List, map, length, ap, ◌∙◌, arith}
use Rattle.std.specs.List.{AllByRecursion}
use Rattle.object_store.specs.declared.account.Account.{Account}
use Rattle.object_store.specs.Stored.{HasAccount, Stored}
use Rattle.room_table.specs.Tables.{Table, without_spare}
use Rattle.intent_book.specs.declared.player_run.PlayerRun.{PlayerRun}
use Rattle.world_rules.specs.Sound.{IsSound}
use Rattle.record_follows.specs.Follows.{after}
use Rattle.tick_journal.specs.BaseForms.{world_as_read}
use Rattle.tick_journal.specs.declared.entries.UploadEntry.{UploadEntry}
use Rattle.tick_journal.specs.declared.tick_record.TickRecord.{TickRecord}
use Rattle.recorded_tick.specs.Recording.{AreReadAlike, HaveAsMany, HaveSameFrame, IsRecordOf}
use Rattle.recorded_tick.proofs.Leading.{as_many_accounts, as_many_rooms, leads_between, stand_at}
use Rattle.recorded_tick.proofs.Lists.{all_unmapped}
use Rattle.recorded_tick.proofs.Picked.{accounts_picked, bare_table, picked_all, rooms_picked}
use Rattle.recorded_tick.proofs.Runs.{all_have}
use Rattle.recorded_tick.proofs.Standing.{same_have, within_from}
use Rattle.recorded_tick.proofs.Standings.{led_as_read}

module _ (one other : Stored) (frame : HaveSameFrame one other) where
  pub many_framed : HaveAsMany one other
  many_framed = record {
    rooms = as_many_rooms one.rooms other.rooms frame.rooms;
    accounts = as_many_accounts one.accounts other.accounts frame.players;
  }

  module _ (sound : IsSound one) (well : IsSound other) (uploads : List UploadEntry) (runs : List PlayerRun) (entry : TickRecord) (recorded : IsRecordOf one other uploads runs entry) where
    pub tables_within : AllByRecursion (λ (table : Table). table.index < length one.rooms) entry.rooms
    tables_within =
        let many = as_many_rooms one.rooms other.rooms frame.rooms in
        all_unmapped (λ (table : Table). table.index < length one.rooms) without_spare entry.rooms
        (picked_all (λ (table : Table). table.index < length one.rooms) (map bare_table one.rooms) (map bare_table other.rooms) (map without_spare entry.rooms)
        (rooms_picked one.rooms other.rooms entry.rooms recorded.rooms) (within_from 0 (length one.rooms) other.rooms (omega (arith, many)) (stand_at other.rooms well.places)))

    pub players_within : AllByRecursion (λ (account : Account). HasAccount account.player one.accounts) entry.accounts
    players_within =
        picked_all (λ (account : Account). HasAccount account.player one.accounts) one.accounts other.accounts entry.accounts (accounts_picked one.accounts other.accounts entry.accounts recorded.accounts)
        (same_have one.accounts other.accounts one.accounts frame.players (all_have one.accounts))

    pub caught : (next : Stored) → next ≡ after one entry → AreReadAlike next other
    caught next is =
        ap world_as_read is
        ∙ (led_as_read one entry ∙ leads_between one other frame.rooms frame.players sound.places well.places well.accounts uploads runs entry recorded)
