-- The last world of a journal can be hosted.
use Rattle.std.proofs.Common.{◌≤◌, ◌==◌, List, [], ◌∷◌, length, Option, Some, None, unwrap_or, arith}
use Rattle.std.specs.List.{AllByRecursion, find}
use Rattle.std.specs.Option.{IfSome}
use Rattle.game_tables.specs.Limits.{most_memory}
use Rattle.object_store.specs.Stored.{Stored, find_account}
use Rattle.room_table.specs.Tables.{IsOnTile, IsRising, Table}
use Rattle.object_store.specs.declared.account.Account.{Account}
use Rattle.object_store.specs.declared.world.Room.{Room}
use Rattle.world_rules.specs.Sound.{IsSound, IsSoundRoom}
use Rattle.world_rules.specs.declared.rule.Rule.TheVariants.{Sites}
use Rattle.hosted_tick.specs.Hosting.{IsHosted}
use Rattle.hosted_tick.proofs.Found.{holds_if_found}
use Rattle.site_limit.specs.FewSites.{HaveFewSites}
use Rattle.record_follows.specs.Courses.{world_after}
use Rattle.record_follows.specs.Follows.{account_after, after, room_after}
use Rattle.record_follows.proofs.Lasting.{places_stay, rising_stays, rules_stay, tiles_stay, world_after_alike}
use Rattle.world_bytes.specs.Forms.{HasAccountForm, HasRoomForm}
use Rattle.tick_journal.specs.BaseForms.{HasBaseRoomForm}
use Rattle.tick_journal.specs.declared.tick_record.TickRecord.{TickRecord}
use Rattle.world_journal.specs.Journals.{IsCourse, IsRead}
use Rattle.recorded_tick.proofs.Leading.{as_many_accounts}
use Rattle.recorded_tick.proofs.Lists.{all_mapped, all_with}

-- ---- what holds of each table and of each account

found_or : {A : Type 0} (P : A → Type 0) (found : Option A) (x : A) → IfSome found P → P x → P (unwrap_or found x)
found_or P None x holds own = own
found_or P (Some y) x holds own = holds

every : {A : Type 0} (P Q : A → Type 0) → ((x : A) → P x → Q x) → (xs : List A) → AllByRecursion P xs → AllByRecursion Q xs
every P Q make [] all = tt
every P Q make (x ∷ xs) all = (make x all.0, every P Q make xs all.1)

-- What holds of each table that has its form holds of those of the last world where it holds of those of the first.
tables_stay : (P : Table → Type 0) → ((table : Table) → HasRoomForm table → P table) → (base : Stored) (entries : List TickRecord) → AllByRecursion IsRead entries
    → AllByRecursion (λ (room : Room). P room.table) base.rooms → AllByRecursion (λ (room : Room). P room.table) (world_after base entries).rooms
tables_stay P make base [] read all = all
tables_stay P make base (entry ∷ later) read all =
    let recorded : AllByRecursion P entry.rooms = every HasRoomForm P make entry.rooms read.0.form.rooms in
    tables_stay P make (after base entry) later read.1
    (all_mapped (λ (room : Room). P room.table) (room_after entry.rooms) base.rooms
    (every (λ (room : Room). P room.table) (λ (room : Room). P (room_after entry.rooms room).table)
    (λ room own. found_or P (find (λ (table : Table). table.index == room.table.index) entry.rooms) room.table (holds_if_found P (λ (table : Table). table.index == room.table.index) entry.rooms recorded) own) base.rooms all))

-- The same of accounts.
accounts_stay : (P : Account → Type 0) → ((account : Account) → HasAccountForm account → P account) → (base : Stored) (entries : List TickRecord) → AllByRecursion IsRead entries
    → AllByRecursion P base.accounts → AllByRecursion P (world_after base entries).accounts
accounts_stay P make base [] read all = all
accounts_stay P make base (entry ∷ later) read all =
    let recorded : AllByRecursion P entry.accounts = every HasAccountForm P make entry.accounts read.0.form.accounts.forms in
    accounts_stay P make (after base entry) later read.1
    (all_mapped P (account_after entry.accounts) base.accounts
    (every P (λ (account : Account). P (account_after entry.accounts account))
    (λ account own. found_or P (find_account account.player entry.accounts) account (holds_if_found P (λ (other : Account). other.player == account.player) entry.accounts recorded) own) base.accounts all))

-- ---- the last world

module _ (base : Stored) (entries : List TickRecord) (course : IsCourse base entries) where
  tables_keep : (P : Table → Type 0) → ((table : Table) → HasRoomForm table → P table) → AllByRecursion (λ (room : Room). P room.table) (world_after base entries).rooms
  tables_keep P make = tables_stay P make base entries course.forms (every HasBaseRoomForm (λ (room : Room). P room.table) (λ room is. make room.table is.objects) base.rooms course.form.rooms.forms)

  short : (account : Account) → HasAccountForm account → length account.memory ≤ most_memory
  short account form = form.memory

  sound : IsSound (world_after base entries)
  sound = record {
    places = places_stay base entries course.form.rooms.places;
    tables = tables_keep (λ (table : Table). IsRising table.objects) (λ table form. form.rising);
    rooms = all_with (λ (room : Room). 1 ≤ room.table.next) (λ (room : Room). AllByRecursion IsOnTile room.table.objects) IsSoundRoom (λ room begun tiles. record { begun = begun; tiles = tiles }) (world_after base entries).rooms
        (tables_keep (λ (table : Table). 1 ≤ table.next) (λ table form. form.some)) (tiles_stay base entries course.rules.tiles course.follow);
    accounts = rising_stays base entries course.form.accounts.forms.rising;
    rules = λ rule n counts sites broken. rules_stay base entries course.rules.rules course.follow rule n counts broken;
  }

  hosted : IsHosted (world_after base entries)
  hosted =
      let alike = world_after_alike base entries in
      let rooms = alike.rooms in
      let players = as_many_accounts (world_after base entries).accounts base.accounts alike.players in
      let few_rooms = course.form.rooms.most in
      let few_players = course.form.accounts.most in
      record {
        sound = sound;
        rooms = omega (arith, rooms, few_rooms);
        players = omega (arith, players, few_players);
        memories = accounts_stay (λ (account : Account). length account.memory ≤ most_memory) short base entries course.forms
            (every HasAccountForm (λ (account : Account). length account.memory ≤ most_memory) short base.accounts course.form.accounts.forms.forms);
      }

  few_sites : HaveFewSites (world_after base entries)
  few_sites player broken = rules_stay base entries course.rules.rules course.follow Sites player (λ e. cc) broken

  pub last_hosted : IsHosted (world_after base entries) × HaveFewSites (world_after base entries)
  last_hosted = (hosted, few_sites)
