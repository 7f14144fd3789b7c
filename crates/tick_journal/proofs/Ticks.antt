-- Records of ticks at the front of the same bytes.
use Rattle.std.proofs.Common.{◌≡◌, ℕ, ◌<◌, ◌^◌, List, [], ◌∷◌, ◌++◌, map, length, sym, ap, ◌∙◌, refl, append_assoc}
use Rattle.std.proofs.lemmas.List.{append-nil, length-map}
use Rattle.std.specs.List.{AllByRecursion}
use Rattle.byte_fields.specs.Front.{Begins, BeginsNone}
use Rattle.byteorder.specs.Endian.{little_bytes}
use Rattle.room_table.specs.Tables.{Table, without_spare}
use Rattle.object_store.specs.declared.account.Account.{Account}
use Rattle.world_bytes.specs.Forms.{HasRoomForm, SpellsRoom, account_bytes, room_bytes}
use Rattle.world_bytes.specs.inner.Rows.{Leads, LeadsNone}
use Rattle.world_bytes.proofs.Rooms.{room_one}
use Rattle.world_bytes.proofs.Words.{behind_byte, behind_word}
use Rattle.tick_journal.specs.Accounts.{HasAccountsForm, SpellsAccounts}
use Rattle.tick_journal.specs.Contents.{run_bytes, tick_content, upload_bytes}
use Rattle.tick_journal.specs.TickForms.{HasRunForm, HasTickForm, HasUploadForm, IsRisingBy, SpellsTick, tick_as_read}
use Rattle.tick_journal.specs.declared.entries.RunEntry.{RunEntry}
use Rattle.tick_journal.specs.declared.entries.UploadEntry.{UploadEntry}
use Rattle.tick_journal.specs.declared.tick_record.TickRecord.{TickRecord}
use Rattle.tick_journal.specs.inner.Lists.{listed}
use Rattle.tick_journal.specs.inner.Reading.{AreReadTables, HasRunsForm, HasUploadsForm, IsReadTable, IsReadTick, before}
use Rattle.tick_journal.proofs.BaseContents.{accounts_begin, base_accounts_one, flat_same}
use Rattle.tick_journal.proofs.Listed.{listed_one}
use Rattle.tick_journal.proofs.ListsAhead.{IsOne}
use Rattle.tick_journal.proofs.Recorded.{run_one, upload_one}

-- ---- tables

pub table_read : (table : Table) (bytes rest : List ℕ) → Begins SpellsRoom bytes table rest → Leads IsReadTable (before room_bytes) bytes table rest
table_read table bytes rest (text, (form, full, spelled), e) =
    (record { form = form; full = full }, e ∙ ap (λ (z : List ℕ). z ++ rest) spelled)

pub no_table_read : (bytes : List ℕ) → BeginsNone SpellsRoom bytes → LeadsNone IsReadTable (before room_bytes) bytes
no_table_read bytes none = λ table rest has e. none table rest (room_bytes table, (has.form, has.full, refl), e)

pub table_one : IsOne IsReadTable room_bytes
table_one a b bytes r s p q e f =
    room_one bytes a b r s (room_bytes a, (p.form, p.full, refl), e) (room_bytes b, (q.form, q.full, refl), f)

tables_from : (tables : List Table) → AllByRecursion HasRoomForm tables → tables ≡ map without_spare tables → AllByRecursion IsReadTable tables
tables_from [] forms full = tt
tables_from (x ∷ tables) forms full =
    let first : x ≡ without_spare x = cc in
    let rest : tables ≡ map without_spare tables = cc in
    (record { form = forms.0; full = first }, tables_from tables forms.1 rest)

tables_forms : (tables : List Table) → AllByRecursion IsReadTable tables → AllByRecursion HasRoomForm tables
tables_forms [] all = tt
tables_forms (x ∷ tables) all = let first = all.0 in (first.form, tables_forms tables all.1)

tables_full : (tables : List Table) → AllByRecursion IsReadTable tables → tables ≡ map without_spare tables
tables_full [] all = refl
tables_full (x ∷ tables) all =
    let first = all.0 in
    let full : x ≡ without_spare x = first.full in
    let rest = tables_full tables all.1 in
    λ j. full j ∷ rest j

-- ---- accounts

pub no_accounts_read : (bytes : List ℕ) → BeginsNone SpellsAccounts bytes → LeadsNone HasAccountsForm (before (listed account_bytes)) bytes
no_accounts_read bytes none = λ accounts rest form e. none accounts rest (accounts_begin accounts bytes rest form e)

-- ---- lists of one kind

uploads_one : IsOne HasUploadsForm (listed upload_bytes)
uploads_one a b bytes r s p q e f = listed_one HasUploadForm upload_bytes upload_one a b bytes r s p.forms q.forms p.count q.count e f

runs_one : IsOne HasRunsForm (listed run_bytes)
runs_one a b bytes r s p q e f = listed_one HasRunForm run_bytes run_one a b bytes r s p.forms q.forms p.count q.count e f

tables_one : IsOne AreReadTables (listed room_bytes)
tables_one a b bytes r s p q e f = listed_one IsReadTable room_bytes table_one a b bytes r s p.forms q.forms p.count q.count e f

-- ---- records

-- what stands behind the accounts, the runs, the uploads
abbrev pub after_accounts : TickRecord → List ℕ → List ℕ
after_accounts entry rest = listed room_bytes entry.rooms ++ rest

abbrev pub after_runs : TickRecord → List ℕ → List ℕ
after_runs entry rest = listed account_bytes entry.accounts ++ after_accounts entry rest

abbrev pub after_uploads : TickRecord → List ℕ → List ℕ
after_uploads entry rest = listed run_bytes entry.runs ++ after_runs entry rest

tick_parts : (entry : TickRecord) (rest : List ℕ) → tick_content entry ++ rest ≡ 0x54 ∷ (little_bytes 8 entry.tick ++ (listed upload_bytes entry.uploads ++ after_uploads entry rest))
unfolding tick_content
tick_parts entry rest = simp append_assoc

pub tick_uploads : (entry : TickRecord) → IsReadTick entry → HasUploadsForm entry.uploads
tick_uploads entry is = let form = is.form in record { forms = form.uploads; count = form.uploads_count }

pub tick_runs : (entry : TickRecord) → IsReadTick entry → HasRunsForm entry.runs
tick_runs entry is = let form = is.form in record { forms = form.runs; rising = form.runs_rising; count = form.runs_count }

pub tick_accounts : (entry : TickRecord) → IsReadTick entry → HasAccountsForm entry.accounts
tick_accounts entry is = let form = is.form in form.accounts

pub tick_tables : (entry : TickRecord) → IsReadTick entry → AreReadTables entry.rooms
tick_tables entry is =
    let form = is.form in
    record { forms = tables_from entry.rooms form.rooms (ap (λ (z : TickRecord). z.rooms) is.full); rising = form.rooms_rising; count = form.rooms_count }

pub no_tag : (entry : TickRecord) (bytes rest : List ℕ) → ((left : List ℕ) → bytes ≡ 0x54 ∷ left → ⊥) → bytes ≡ tick_content entry ++ rest → ⊥
no_tag entry bytes rest none e = none _ (e ∙ tick_parts entry rest)

-- what is behind the tag
pub behind_tag : (entry : TickRecord) (bytes left rest : List ℕ) → bytes ≡ 0x54 ∷ left → bytes ≡ tick_content entry ++ rest → left ≡ little_bytes 8 entry.tick ++ (listed upload_bytes entry.uploads ++ after_uploads entry rest)
behind_tag entry bytes left rest e f = (behind_byte 0x54 0x54 bytes left _ e (f ∙ tick_parts entry rest)).1

-- what is behind the number
pub behind_tick : (entry : TickRecord) (tick : ℕ) (bytes left behind rest : List ℕ) → tick < 2 ^ 64 → IsReadTick entry → bytes ≡ 0x54 ∷ left → left ≡ little_bytes 8 tick ++ behind → bytes ≡ tick_content entry ++ rest → (tick ≡ entry.tick) × (behind ≡ listed upload_bytes entry.uploads ++ after_uploads entry rest)
behind_tick entry tick bytes left behind rest fits is e f g =
    let form = is.form in
    behind_word 8 tick entry.tick left behind _ fits form.tick f (behind_tag entry bytes left rest e g)

pub behind_uploads : (entry : TickRecord) (uploads : List UploadEntry) (bytes left rest : List ℕ) → IsReadTick entry → Leads HasUploadsForm (before (listed upload_bytes)) bytes uploads left → bytes ≡ listed upload_bytes entry.uploads ++ after_uploads entry rest → (uploads ≡ entry.uploads) × (left ≡ after_uploads entry rest)
behind_uploads entry uploads bytes left rest is read e =
    uploads_one uploads entry.uploads bytes left (after_uploads entry rest) read.0 (tick_uploads entry is) read.1 e

pub behind_runs : (entry : TickRecord) (runs : List RunEntry) (bytes left rest : List ℕ) → IsReadTick entry → Leads HasRunsForm (before (listed run_bytes)) bytes runs left → bytes ≡ after_uploads entry rest → (runs ≡ entry.runs) × (left ≡ after_runs entry rest)
behind_runs entry runs bytes left rest is read e =
    runs_one runs entry.runs bytes left (after_runs entry rest) read.0 (tick_runs entry is) read.1 e

pub behind_accounts : (entry : TickRecord) (accounts : List Account) (bytes left rest : List ℕ) → IsReadTick entry → Leads HasAccountsForm (before (listed account_bytes)) bytes accounts left → bytes ≡ after_runs entry rest → (accounts ≡ entry.accounts) × (left ≡ after_accounts entry rest)
behind_accounts entry accounts bytes left rest is read e =
    base_accounts_one accounts entry.accounts bytes left (after_accounts entry rest) read.0 (tick_accounts entry is) read.1 e

pub tick_whole : (entry : TickRecord) (bytes left a b c d rest : List ℕ) → bytes ≡ 0x54 ∷ left → left ≡ little_bytes 8 entry.tick ++ a → a ≡ listed upload_bytes entry.uploads ++ b → b ≡ listed run_bytes entry.runs ++ c → c ≡ listed account_bytes entry.accounts ++ d → d ≡ listed room_bytes entry.rooms ++ rest → bytes ≡ tick_content entry ++ rest
tick_whole entry bytes left a b c d rest e f g h i j =
    let lists : a ≡ listed upload_bytes entry.uploads ++ after_uploads entry rest =
    g ∙ ap (λ (z : List ℕ). listed upload_bytes entry.uploads ++ z) (h ∙ ap (λ (z : List ℕ). listed run_bytes entry.runs ++ z) (i ∙ ap (λ (z : List ℕ). listed account_bytes entry.accounts ++ z) j)) in
    e ∙ ap (λ (z : List ℕ). 0x54 ∷ z) (f ∙ ap (λ (z : List ℕ). little_bytes 8 entry.tick ++ z) lists) ∙ sym (tick_parts entry rest)

tick_from : ℕ → List UploadEntry → List RunEntry → List Account → List Table → TickRecord
tick_from tick uploads runs accounts rooms = record { tick = tick; uploads = uploads; runs = runs; accounts = accounts; rooms = rooms }

tick_same : (a b : TickRecord) → a.tick ≡ b.tick → a.uploads ≡ b.uploads → a.runs ≡ b.runs → a.accounts ≡ b.accounts → a.rooms ≡ b.rooms → a ≡ b
unfolding tick_from
tick_same a b e f g h i =
    let same : tick_from a.tick a.uploads a.runs a.accounts a.rooms ≡ tick_from b.tick b.uploads b.runs b.accounts b.rooms = cc in
    same

full_record : (entry : TickRecord) → AreReadTables entry.rooms → entry ≡ tick_as_read entry
full_record entry are = tick_same entry (tick_as_read entry) refl refl refl refl (tables_full entry.rooms are.forms)

pub tick_is : (entry : TickRecord) → entry.tick < 2 ^ 64 → HasUploadsForm entry.uploads → HasRunsForm entry.runs → HasAccountsForm entry.accounts → AreReadTables entry.rooms → IsReadTick entry
tick_is entry tick uploads runs accounts tables =
    record {
      form = record {
        uploads = uploads.forms;
        runs = runs.forms;
        runs_rising = runs.rising;
        accounts = accounts;
        rooms = tables_forms entry.rooms tables.forms;
        rooms_rising = tables.rising;
        tick = tick;
        uploads_count = uploads.count;
        runs_count = runs.count;
        rooms_count = tables.count;
      };
      full = full_record entry tables;
    }

pub tick_one : IsOne IsReadTick tick_content
tick_one a b bytes r s p q e f =
    let form = p.form in
    let one = behind_tick b a.tick bytes _ _ s form.tick q (e ∙ tick_parts a r) refl f in
    let two = behind_uploads b a.uploads _ (after_uploads a r) s q (tick_uploads a p, refl) one.1 in
    let three = behind_runs b a.runs _ (after_runs a r) s q (tick_runs a p, refl) two.1 in
    let four = behind_accounts b a.accounts _ (after_accounts a r) s q (tick_accounts a p, refl) three.1 in
    let five = tables_one a.rooms b.rooms _ r s (tick_tables a p) (tick_tables b q) refl four.1 in
    (tick_same a b one.0 two.0 three.0 four.0 five.0, five.1)

-- ---- whole contents

pub spelled_one : (bytes : List ℕ) (one other : TickRecord) → SpellsTick bytes one → SpellsTick bytes other → one ≡ other
spelled_one bytes one other (form, full, spelled) (form', full', spelled') =
    (tick_one one other bytes [] [] (record { form = form; full = full }) (record { form = form'; full = full' }) (spelled ∙ sym (append-nil (tick_content one))) (spelled' ∙ sym (append-nil (tick_content other)))).0

-- ---- what is written

-- tables list the same without room for more objects
bare_forms : (tables : List Table) → AllByRecursion HasRoomForm tables → AllByRecursion HasRoomForm (map without_spare tables)
bare_forms [] forms = tt
bare_forms (x ∷ tables) forms =
    let form = forms.0 in
    (record { some = form.some; rising = form.rising; objects = form.objects; index = form.index; next = form.next; count = form.count }, bare_forms tables forms.1)

bare_later : (index : ℕ) (tables : List Table) → AllByRecursion (λ (later : Table). index < later.index) tables → AllByRecursion (λ (later : Table). index < later.index) (map without_spare tables)
bare_later index [] all = tt
bare_later index (x ∷ tables) all = (all.0, bare_later index tables all.1)

bare_rising : (tables : List Table) → IsRisingBy (λ (table : Table). table.index) tables → IsRisingBy (λ (table : Table). table.index) (map without_spare tables)
bare_rising [] rising = tt
bare_rising (x ∷ tables) rising = (bare_later x.index tables rising.0, bare_rising tables rising.1)

bare_twice : (tables : List Table) → map without_spare tables ≡ map without_spare (map without_spare tables)
bare_twice [] = refl
bare_twice (x ∷ tables) = let rest = bare_twice tables in λ j. without_spare x ∷ rest j

bare_bytes : (table : Table) → room_bytes (without_spare table) ≡ room_bytes table
unfolding room_bytes
bare_bytes table = refl

bare_content : (entry : TickRecord) → tick_content entry ≡ tick_content (tick_as_read entry)
unfolding tick_content
bare_content entry =
    let many : length (map without_spare entry.rooms) ≡ length entry.rooms = length-map entry.rooms without_spare in
    let flat = flat_same room_bytes without_spare bare_bytes entry.rooms in
    rw (many, flat) refl

pub read_as_written : (entry : TickRecord) → HasTickForm entry → SpellsTick (tick_content entry) (tick_as_read entry)
read_as_written entry form = (
  record {
    uploads = form.uploads;
    runs = form.runs;
    runs_rising = form.runs_rising;
    accounts = form.accounts;
    rooms = bare_forms entry.rooms form.rooms;
    rooms_rising = bare_rising entry.rooms form.rooms_rising;
    tick = form.tick;
    uploads_count = form.uploads_count;
    runs_count = form.runs_count;
    rooms_count = rw length-map form.rooms_count;
  },
  tick_same (tick_as_read entry) (tick_as_read (tick_as_read entry)) refl refl refl refl (bare_twice entry.rooms),
  bare_content entry,
)
