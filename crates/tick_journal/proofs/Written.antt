-- What was written of a content, piece by piece.
use Rattle.std.proofs.Common.{◌≡◌, ℕ, ◌+◌, ◌<◌, ◌≤◌, List, [], ◌∷◌, ◌++◌, map, take, length, get_or, sym, ap, subst, ◌∙◌, append_assoc, append-nil}
use Rattle.std.specs.List.{AllByRecursion, flat_map}
use Rattle.std.proofs.lemmas.List.{flat_map_more, take_all, take_more}
use Rattle.object_store.proofs.Accounts.{all_push}
use Rattle.byteorder.specs.Endian.{little_bytes}
use Rattle.room_terrain.specs.Tiles.{ground_number}
use Rattle.object_store.specs.declared.world.Room.{Room}
use Rattle.object_store.specs.Stored.{Stored}
use Rattle.world_bytes.specs.Forms.{account_bytes, intent_bytes, room_bytes}
use Rattle.world_bytes.proofs.Written.{then_written}
use Rattle.tick_journal.specs.declared.entries.RunEntry.{RunEntry}
use Rattle.tick_journal.specs.declared.entries.UploadEntry.{UploadEntry}
use Rattle.tick_journal.specs.declared.tick_record.TickRecord.{TickRecord}
use Rattle.tick_journal.specs.Contents.{magic, signed_bytes, base_room, base_content, upload_bytes, outcome_bytes, run_bytes, tick_content}
use Rattle.tick_journal.specs.inner.Lists.{listed}

-- a list behind its number, and behind another piece
list_written : {V : Type 0} (bytes : V → List ℕ) (values : List V) (old mid new a : List ℕ) → mid ≡ old ++ a → new ≡ mid ++ listed bytes values → new ≡ old ++ (a ++ little_bytes 4 (length values) ++ flat_map bytes values)
list_written bytes values old mid new a e f =
    then_written old mid new a (listed bytes values) e f ∙ ap (λ (z : List ℕ). old ++ z) (sym (append_assoc a (little_bytes 4 (length values)) (flat_map bytes values)))

pub room_written : (room : Room) (old a b c new : List ℕ) → a ≡ old ++ signed_bytes room.name.column → b ≡ a ++ signed_bytes room.name.row → c ≡ b ++ map ground_number room.terrain → new ≡ c ++ room_bytes room.table → new ≡ old ++ base_room room
unfolding base_room
room_written room old a b c new e f g h =
    let two = then_written old a b (signed_bytes room.name.column) (signed_bytes room.name.row) e f in
    let three = then_written old b c _ (map ground_number room.terrain) two g in
    then_written old c new _ (room_bytes room.table) three h

pub base_written : (world : Stored) (start rooms whole : List ℕ) → start ≡ magic ++ little_bytes 4 1 ++ little_bytes 8 world.tick → rooms ≡ start ++ listed base_room world.rooms → whole ≡ rooms ++ listed account_bytes world.accounts → whole ≡ base_content world
unfolding base_content
base_written world start rooms whole e f g =
    let two = list_written base_room world.rooms [] start rooms _ e f in
    list_written account_bytes world.accounts [] rooms whole _ two g

pub upload_written : (entry : UploadEntry) (old a b c new : List ℕ) → a ≡ old ++ little_bytes 4 entry.player → b ≡ a ++ (entry.result_number ∷ []) → c ≡ b ++ little_bytes 4 (length entry.bytes) → new ≡ c ++ entry.bytes → new ≡ old ++ upload_bytes entry
unfolding upload_bytes
upload_written entry old a b c new e f g h =
    let two = then_written old a b (little_bytes 4 entry.player) (entry.result_number ∷ []) e f in
    let three = then_written old b c _ (little_bytes 4 (length entry.bytes)) two g in
    then_written old c new _ entry.bytes three h

pub run_written : (run : RunEntry) (old a b c new : List ℕ) → a ≡ old ++ little_bytes 4 run.player → b ≡ a ++ outcome_bytes run.outcome → c ≡ b ++ little_bytes 8 run.used → new ≡ c ++ listed intent_bytes run.intents → new ≡ old ++ run_bytes run
unfolding run_bytes
run_written run old a b c new e f g h =
    let two = then_written old a b (little_bytes 4 run.player) (outcome_bytes run.outcome) e f in
    let three = then_written old b c _ (little_bytes 8 run.used) two g in
    list_written intent_bytes run.intents old c new _ three h

pub tick_written : (entry : TickRecord) (tag tick a b c whole : List ℕ) → tag ≡ 0x54 ∷ [] → tick ≡ tag ++ little_bytes 8 entry.tick → a ≡ tick ++ listed upload_bytes entry.uploads → b ≡ a ++ listed run_bytes entry.runs → c ≡ b ++ listed account_bytes entry.accounts → whole ≡ c ++ listed room_bytes entry.rooms → whole ≡ tick_content entry
unfolding tick_content
tick_written entry tag tick a b c whole e f g h i j =
    let one = then_written [] tag tick (0x54 ∷ []) (little_bytes 8 entry.tick) e f in
    let two = list_written upload_bytes entry.uploads [] tick a _ one g in
    let three = list_written run_bytes entry.runs [] a b _ two h in
    let four = list_written account_bytes entry.accounts [] b c _ three i in
    list_written room_bytes entry.rooms [] c whole _ four j

-- ---- a list while its values are written

pub list_next : {V : Type 0} (bytes : V → List ℕ) (values : List V) (i : ℕ) (x d : V) (start now more : List ℕ) → i < length values → x ≡ get_or values i d → now ≡ start ++ (little_bytes 4 (length values) ++ flat_map bytes (take i values)) → more ≡ now ++ bytes x → more ≡ start ++ (little_bytes 4 (length values) ++ flat_map bytes (take (i + 1) values))
list_next bytes values i x d start now more lt is e h =
    let number : List ℕ = little_bytes 4 (length values) in
    let front : List ℕ = flat_map bytes (take i values) in
    h ∙ ap (λ v. v ++ bytes x) e
    ∙ append_assoc start (number ++ front) (bytes x)
    ∙ ap (λ v. start ++ v) (append_assoc number front (bytes x))
    ∙ ap (λ v. start ++ (number ++ v)) (flat_map_more bytes [] (take i values) x ∙ ap (λ v. flat_map bytes (take i values ++ v ∷ [])) is ∙ ap (flat_map bytes) (sym (take_more values i d lt)))

pub fits_next : {V : Type 0} (Fits : V → Type 0) (values : List V) (i : ℕ) (x d : V) → i < length values → x ≡ get_or values i d → AllByRecursion Fits (take i values) → Fits x → AllByRecursion Fits (take (i + 1) values)
fits_next {V} Fits values i x d lt is all here =
    subst (λ (v : List V). AllByRecursion Fits v) (ap (λ v. take i values ++ v ∷ []) is ∙ sym (take_more values i d lt)) (all_push Fits (take i values) x all here)

pub list_none : (start now number : List ℕ) → now ≡ start ++ number → now ≡ start ++ (number ++ [])
list_none start now number e = e ∙ ap (λ v. start ++ v) (sym (append-nil number))

pub list_whole : {V : Type 0} (bytes : V → List ℕ) (values : List V) (i : ℕ) (start now : List ℕ) → length values ≤ i → now ≡ start ++ (little_bytes 4 (length values) ++ flat_map bytes (take i values)) → now ≡ start ++ listed bytes values
list_whole bytes values i start now le e =
    e ∙ ap (λ v. start ++ (little_bytes 4 (length values) ++ flat_map bytes v)) (take_all i values le)
