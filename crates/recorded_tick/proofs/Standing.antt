-- The record of a tick may stand behind the world before.
use Rattle.std.proofs.Common.{◌≡◌, ℕ, suc, ◌+◌, ◌<◌, ◌≤◌, true, List, [], ◌∷◌, map, length, refl, sym, ap, subst, ◌∙◌, arith}
use Rattle.std.specs.List.{AllByRecursion}
use Rattle.std.proofs.lemmas.List.{length-map}
use Rattle.game_tables.specs.Limits.{most_memory}
use Rattle.object_store.proofs.Accounts.{accounts_from_rises, rises_from_accounts}
use Rattle.room_table.proofs.Rising.{Rises}
use Rattle.room_table.specs.Tables.{Table, without_spare}
use Rattle.object_store.specs.declared.account.Account.{Account}
use Rattle.object_store.specs.declared.world.Room.{Room}
use Rattle.object_store.specs.Stored.{HasAccount, Stored}
use Rattle.intent_book.specs.declared.player_run.PlayerRun.{PlayerRun}
use Rattle.world_rules.specs.declared.rule.Rule.{Rule}
use Rattle.world_rules.specs.declared.rule.Rule.TheVariants.{Counts, RoomTwice, Corner, Serial, IdTwice, Tile, Shared, Owner, Controllers, Range, PlayerTwice, Sites}
use Rattle.world_rules.specs.Rules.{Broken}
use Rattle.world_rules.specs.Sound.{IsSound, IsSoundRoom}
use Rattle.world_rules.specs.World.{ListedRoom, World, listed_room, listing_of, world_of}
use Rattle.world_rules.proofs.Ticks.{next_world-tick}
use Rattle.upload_stream.specs.Streams.{Upload}
use Rattle.hosted_tick.specs.Hosting.{Held, IsHosted, state_of}
use Rattle.hosted_tick.specs.Next.{AreRuns, Next}
use Rattle.hosted_tick.proofs.Accounts.{accounts_listed}
use Rattle.rule_check.specs.Kept.{AreOnTiles, KeepsObjectRules, is_of_objects}
use Rattle.record_follows.specs.Follows.{Follows, IsAdmitted}
use Rattle.site_limit.specs.FewSites.{HaveFewSites}
use Rattle.site_limit.proofs.Kept.{limit_kept}
use Rattle.world_bytes.specs.Forms.{HasAccountForm, HasRoomForm}
use Rattle.world_bytes.specs.Numbers.{AccountFits, TableFits}
use Rattle.tick_journal.specs.BaseForms.{room_as_read, world_as_read}
use Rattle.tick_journal.specs.Numbers.{RecordFits, RunFits, UploadFits}
use Rattle.tick_journal.specs.TickForms.{HasRunForm, HasTickForm, HasUploadForm, IsRisingBy, tick_as_read}
use Rattle.tick_journal.specs.declared.entries.RunEntry.{RunEntry}
use Rattle.tick_journal.specs.declared.entries.UploadEntry.{UploadEntry}
use Rattle.tick_journal.specs.declared.tick_record.TickRecord.{TickRecord}
use Rattle.world_journal.specs.Journals.{MayFollow}
use Rattle.recorded_tick.specs.Recording.{IsRecordOf}
use Rattle.recorded_tick.proofs.Leading.{StandFrom, index_of, leads, many, player_of, stand_at, tables_rise}
use Rattle.recorded_tick.proofs.Picked.{ArePicked, accounts_picked, bare_table, picked_all, picked_rises, rooms_picked}
use Rattle.recorded_tick.proofs.Players.{players_are}
use Rattle.recorded_tick.proofs.Lists.{all_unmapped, all_with}
use Rattle.recorded_tick.proofs.Runs.{IsEmitted, all_have, entries_emitted, entries_rise, run_form, runs_have}
use Rattle.recorded_tick.proofs.Tables.{IsListed, room_form, tables_listed}
use Rattle.recorded_tick.proofs.Uploads.{IsJudged, entries_admitted, entries_judged, upload_form}

-- ---- lists

pub account_form : (account : Account) → length account.memory ≤ most_memory → AccountFits account → HasAccountForm account
account_form account short fit = record { memory = short; bytes = fit.bytes; player = fit.player; limit = fit.limit; bucket = fit.bucket; points = fit.points }

rising_tables : (tables : List Table) → Rises index_of (map without_spare tables) → IsRisingBy (λ (table : Table). table.index) tables
rising_tables [] rising = tt
rising_tables (table ∷ tables) rising = (all_unmapped (λ (other : Table). table.index < other.index) without_spare tables rising.0, rising_tables tables rising.1)

-- The indices of rooms in their places are below their number.
pub within_from : (n most : ℕ) (rooms : List Room) → n + length rooms ≤ most → StandFrom n rooms → AllByRecursion (λ (table : Table). table.index < most) (map bare_table rooms)
within_from n most [] few stand = tt
within_from n most (room ∷ rooms) few stand =
    let at = stand 0 room refl in
    (omega (arith, at, few), within_from (n + 1) most rooms (omega (arith, few)) (λ k other is. (let next = stand (suc k) other is in omega (arith, next))))

-- The players of accounts have accounts where others of the same players are.
pub same_have : (before after all : List Account) → map player_of before ≡ map player_of after → AllByRecursion (λ (account : Account). HasAccount account.player all) before
    → AllByRecursion (λ (account : Account). HasAccount account.player all) after
same_have [] [] all same have = tt
same_have [] (y ∷ after) all same have = absurd (cc)
same_have (x ∷ before) [] all same have = absurd (cc)
same_have (x ∷ before) (y ∷ after) all same have =
    let own : x.player ≡ y.player = cc in
    let others : map player_of before ≡ map player_of after = cc in
    (subst (λ (n : ℕ). HasAccount n all) own have.0, same_have before after all others have.1)

-- ---- the rules of the world as it is read

listed_as_read : (rooms : List Room) → map listed_room (map room_as_read rooms) ≡ map listed_room rooms
listed_as_read [] = refl
listed_as_read (room ∷ rooms) = ap (λ (listed : List ListedRoom). listed_room room ∷ listed) (listed_as_read rooms)

pub listing_as_read : (stored : Stored) → listing_of (world_as_read stored) ≡ listing_of stored
listing_as_read stored = λ i. record { rules = 1; tick = stored.tick; rooms = listed_as_read stored.rooms i; accounts = stored.accounts }

object_rules : (stored : Stored) → IsSound stored → HaveFewSites stored → (rule : Rule) (n : ℕ) → is_of_objects rule ≡ true → Broken rule n (listing_of stored) → ⊥
object_rules stored sound few Counts n is broken = absurd (cc)
object_rules stored sound few RoomTwice n is broken = absurd (cc)
object_rules stored sound few Corner n is broken = absurd (cc)
object_rules stored sound few Serial n is broken = sound.rules Serial n (λ e. cc) (λ e. cc) broken
object_rules stored sound few IdTwice n is broken = sound.rules IdTwice n (λ e. cc) (λ e. cc) broken
object_rules stored sound few Tile n is broken = sound.rules Tile n (λ e. cc) (λ e. cc) broken
object_rules stored sound few Shared n is broken = sound.rules Shared n (λ e. cc) (λ e. cc) broken
object_rules stored sound few Owner n is broken = sound.rules Owner n (λ e. cc) (λ e. cc) broken
object_rules stored sound few Controllers n is broken = sound.rules Controllers n (λ e. cc) (λ e. cc) broken
object_rules stored sound few Range n is broken = sound.rules Range n (λ e. cc) (λ e. cc) broken
object_rules stored sound few PlayerTwice n is broken = absurd (cc)
object_rules stored sound few Sites n is broken = few n broken

tiles_as_read : (rooms : List Room) → AllByRecursion IsSoundRoom rooms → AreOnTiles (map room_as_read rooms)
tiles_as_read [] sound = tt
tiles_as_read (room ∷ rooms) sound = (sound.0.tiles, tiles_as_read rooms sound.1)

tiles_sound : (rooms : List Room) → AllByRecursion IsSoundRoom rooms → AreOnTiles rooms
tiles_sound [] sound = tt
tiles_sound (room ∷ rooms) sound = (sound.0.tiles, tiles_sound rooms sound.1)

pub rules_sound : (stored : Stored) → IsSound stored → HaveFewSites stored → KeepsObjectRules stored
rules_sound stored sound few = record { tiles = tiles_sound stored.rooms sound.rooms; rules = object_rules stored sound few }

rules_as_read : (stored : Stored) → IsSound stored → HaveFewSites stored → KeepsObjectRules (world_as_read stored)
rules_as_read stored sound few = record {
  tiles = tiles_as_read stored.rooms sound.rooms;
  rules = λ rule n is broken. object_rules stored sound few rule n is (subst (Broken rule n) (listing_as_read stored) broken);
}

-- ---- the record

module _ (before after : Held) (uploads : List Upload) (judged : List UploadEntry) (runs : List PlayerRun) (entry : TickRecord)
    (hosted : IsHosted before.world) (well : IsHosted after.world) (next : Next (state_of before) uploads judged runs (state_of after)) (recorded : IsRecordOf before.world after.world judged runs entry) where
  ran : AreRuns (world_of before.world) (state_of after).modules before.world.accounts runs
  ran = subst (λ (accounts : List Account). AreRuns (world_of before.world) (state_of after).modules accounts runs) (accounts_listed before.world hosted.sound.accounts) next.emitted

  accounts_of : ArePicked before.world.accounts after.world.accounts entry.accounts
  accounts_of = accounts_picked before.world.accounts after.world.accounts entry.accounts recorded.accounts

  tables_of : ArePicked (map bare_table before.world.rooms) (map bare_table after.world.rooms) (map without_spare entry.rooms)
  tables_of = rooms_picked before.world.rooms after.world.rooms entry.rooms recorded.rooms

  form : RecordFits entry → HasTickForm entry
  form fit = record {
    uploads = all_with IsJudged UploadFits HasUploadForm upload_form entry.uploads
        (subst (AllByRecursion IsJudged) (sym recorded.uploads_are) (entries_judged (world_of before.world) uploads (state_of before).modules (state_of after).modules judged next.judged)) fit.uploads;
    runs = all_with IsEmitted RunFits HasRunForm run_form entry.runs
        (subst (AllByRecursion IsEmitted) (sym recorded.runs_are) (entries_emitted (world_of before.world) (state_of after).modules before.world.accounts runs ran)) fit.runs;
    runs_rising = subst (IsRisingBy (λ (run : RunEntry). run.player)) (sym recorded.runs_are) (entries_rise (world_of before.world) (state_of after).modules before.world.accounts hosted.sound.accounts runs ran);
    accounts = record {
      rising = accounts_from_rises entry.accounts (picked_rises player_of before.world.accounts after.world.accounts entry.accounts accounts_of (rises_from_accounts after.world.accounts well.sound.accounts));
      forms = all_with (λ (account : Account). length account.memory ≤ most_memory) AccountFits HasAccountForm account_form entry.accounts
          (picked_all (λ (account : Account). length account.memory ≤ most_memory) before.world.accounts after.world.accounts entry.accounts accounts_of well.memories) fit.accounts;
      count = fit.accounts_count;
    };
    rooms = all_with (λ (table : Table). IsListed (without_spare table)) TableFits HasRoomForm room_form entry.rooms
        (all_unmapped IsListed without_spare entry.rooms (picked_all IsListed (map bare_table before.world.rooms) (map bare_table after.world.rooms) (map without_spare entry.rooms) tables_of (tables_listed after.world well.sound))) fit.rooms;
    rooms_rising = rising_tables entry.rooms
        (picked_rises index_of (map bare_table before.world.rooms) (map bare_table after.world.rooms) (map without_spare entry.rooms) tables_of (tables_rise after.world.rooms well.sound.places));
    tick = fit.tick;
    uploads_count = fit.uploads_count;
    runs_count = fit.runs_count;
    rooms_count = fit.rooms_count;
  }

  as_many : length after.world.rooms ≡ length before.world.rooms
  as_many = sym (many before.world after.world runs hosted.sound well.sound next.ruled).rooms

  follows : HaveFewSites before.world → Follows (world_as_read before.world) (tick_as_read entry)
  follows few =
      let few_after = limit_kept before after uploads judged runs hosted.sound well.sound next few in
      let counted = as_many in
      let most = length-map before.world.rooms room_as_read in
      record {
        tick = recorded.tick ∙ ap (λ (w : World). w.tick) next.ruled ∙ next_world-tick (world_of before.world) runs;
        rooms = picked_all (λ (table : Table). table.index < length (map room_as_read before.world.rooms)) (map bare_table before.world.rooms) (map bare_table after.world.rooms) (map without_spare entry.rooms) tables_of
            (within_from 0 (length (map room_as_read before.world.rooms)) after.world.rooms (omega (arith, counted, most)) (stand_at after.world.rooms well.sound.places));
        runs = subst (AllByRecursion (λ (run : RunEntry). HasAccount run.player before.world.accounts)) (sym recorded.runs_are) (runs_have (world_of before.world) (state_of after).modules before.world.accounts runs ran);
        accounts = picked_all (λ (account : Account). HasAccount account.player before.world.accounts) before.world.accounts after.world.accounts entry.accounts accounts_of
            (same_have before.world.accounts after.world.accounts before.world.accounts (players_are before.world after.world runs hosted.sound.accounts well.sound.accounts next.ruled) (all_have before.world.accounts));
        rules = subst KeepsObjectRules (sym (leads before.world after.world runs hosted.sound well.sound next.ruled judged entry recorded)) (rules_as_read after.world well.sound few_after);
        uploads = subst (AllByRecursion (IsAdmitted (world_as_read before.world))) (sym recorded.uploads_are) (entries_admitted before.world uploads (state_of before).modules (state_of after).modules judged next.judged);
      }

  pub stands : HaveFewSites before.world → MayFollow (world_as_read before.world) entry
  stands few = record { form = form; follows = follows few }
