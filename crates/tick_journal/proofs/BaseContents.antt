-- Base contents at the front of the same bytes.
use Rattle.std.proofs.Common.{◌≡◌, ℕ, ℤ, pos, negsuc, zero, suc, ◌+◌, ◌<◌, ◌≤◌, ◌^◌, List, [], ◌∷◌, ◌++◌, map, length, get_or, Some, slice_get, w32, sym, subst, ap, ◌∙◌, refl, arith, append_assoc, length-append}
use Rattle.std.proofs.lemmas.List.{append-nil, length-map}
use Rattle.std.specs.Int.{cast_unsigned}
use Rattle.std.specs.List.{flat_map}
use Rattle.byte_fields.specs.Front.{Begins}
use Rattle.byteorder.specs.Endian.{little_bytes}
use Rattle.object_store.specs.declared.account.Account.{Account}
use Rattle.object_store.specs.declared.world.Room.{Room}
use Rattle.object_store.specs.Stored.{Stored}
use Rattle.room_table.specs.Tables.{Table, without_spare}
use Rattle.room_terrain.specs.Names.{IsInRange, IsSideInRange}
use Rattle.room_terrain.specs.Tiles.{ground_number}
use Rattle.room_terrain.specs.declared.name.RoomName.{RoomName}
use Rattle.room_terrain.specs.declared.terrain.Ground.{Ground}
use Rattle.room_terrain.specs.declared.terrain.Ground.TheVariants.{Plain, Wall, Swamp}
use Rattle.world_bytes.specs.Forms.{HasRoomForm, SpellsRoom, account_bytes, room_bytes}
use Rattle.world_bytes.specs.inner.Rows.{Leads}
use Rattle.world_bytes.proofs.Rooms.{room_one}
use Rattle.world_bytes.proofs.Words.{behind_word, text_one}
use Rattle.tick_journal.specs.Accounts.{HasAccountsForm, SpellsAccounts}
use Rattle.tick_journal.specs.BaseForms.{AreInPlace, HasBaseAccounts, HasBaseForm, HasBaseRoomForm, HasBaseRooms, SpellsBase, room_as_read, world_as_read}
use Rattle.tick_journal.specs.Contents.{base_content, base_room, magic, signed_bytes}
use Rattle.tick_journal.specs.inner.Base.{AreTiles, IsTick, accounts_row, base_room_row, base_rooms_row, name_row, side_row, start_row, terrain_row}
use Rattle.tick_journal.specs.inner.Lists.{listed}
use Rattle.tick_journal.specs.inner.Rows.{AreListed, list_row}
use Rattle.tick_journal.proofs.AccountLists.{accounts_one}
use Rattle.tick_journal.proofs.ListsAhead.{IsOne, lists_one}

-- ---- a start

pub start_one : (a b : ℕ) (text r s : List ℕ) → a < 2 ^ 64 → b < 2 ^ 64 → text ≡ start_row a r → text ≡ start_row b s → (a ≡ b) × (r ≡ s)
start_one a b text r s fits fits' e f =
    let left = little_bytes 4 1 ++ (little_bytes 8 a ++ r) in
    let right = little_bytes 4 1 ++ (little_bytes 8 b ++ s) in
    let one : left ≡ right = (text_one magic magic left right refl (sym e ∙ f)).1 in
    let two = behind_word 4 1 1 left (little_bytes 8 a ++ r) (little_bytes 8 b ++ s) (omega arith) (omega arith) refl one in
    behind_word 8 a b (little_bytes 8 a ++ r) r s fits fits' refl two.1

-- the mark that was read
pub start_mark : (tick : ℕ) (text mark left rest : List ℕ) → text ≡ mark ++ left → length mark ≡ 4 → text ≡ start_row tick rest → mark ≡ magic
start_mark tick text mark left rest e size f = (text_one mark magic left (little_bytes 4 1 ++ (little_bytes 8 tick ++ rest)) size (sym e ∙ f)).0

-- the tick that was read
pub start_tick : (tick version read : ℕ) (text mark a b left rest : List ℕ) → tick < 2 ^ 64 → version < 2 ^ 32 → read < 2 ^ 64 → text ≡ mark ++ a → length mark ≡ 4 → a ≡ little_bytes 4 version ++ b → b ≡ little_bytes 8 read ++ left → text ≡ start_row tick rest → read ≡ tick
start_tick tick version read text mark a b left rest p q r e size f g h =
    let one = (text_one mark magic a (little_bytes 4 1 ++ (little_bytes 8 tick ++ rest)) size (sym e ∙ h)).1 in
    let two = behind_word 4 version 1 a b (little_bytes 8 tick ++ rest) q (omega arith) f one in
    (behind_word 8 read tick b left rest r p g two.1).0

-- ---- a name

side_bits : (side : ℤ) → IsSideInRange side → cast_unsigned w32 side < 2 ^ 32
side_bits (pos n) most = omega arith
side_bits (negsuc n) most = omega arith

side_same : (a b : ℤ) → IsSideInRange a → IsSideInRange b → cast_unsigned w32 a ≡ cast_unsigned w32 b → a ≡ b
side_same (pos m) (pos n) p q e = ap pos e
side_same (pos m) (negsuc n) p q e = absurd (omega arith)
side_same (negsuc m) (pos n) p q e = absurd (omega arith)
side_same (negsuc m) (negsuc n) p q e = ap negsuc (omega arith)

pub side_one : (a b : ℤ) (text r s : List ℕ) → IsSideInRange a → IsSideInRange b → text ≡ side_row a r → text ≡ side_row b s → (a ≡ b) × (r ≡ s)
side_one a b text r s p q e f =
    let one = behind_word 4 (cast_unsigned w32 a) (cast_unsigned w32 b) text r s (side_bits a p) (side_bits b q) e f in
    (side_same a b p q one.0, one.1)

pub name_one : (a b : RoomName) (text r s : List ℕ) → IsInRange a → IsInRange b → text ≡ name_row a r → text ≡ name_row b s → (a ≡ b) × (r ≡ s)
name_one a b text r s p q e f =
    let one = side_one a.column b.column text (side_row a.row r) (side_row b.row s) p.column q.column e f in
    let two = side_one a.row b.row (side_row a.row r) r s p.row q.row refl one.1 in
    (λ i. record { column = one.0 i; row = two.0 i }, two.1)

-- ---- a terrain

ground_one : (a b : Ground) → ground_number a ≡ ground_number b → a ≡ b
ground_one Plain Plain e = refl
ground_one Plain Wall e = absurd (omega arith)
ground_one Plain Swamp e = absurd (omega arith)
ground_one Wall Plain e = absurd (omega arith)
ground_one Wall Wall e = refl
ground_one Wall Swamp e = absurd (omega arith)
ground_one Swamp Plain e = absurd (omega arith)
ground_one Swamp Wall e = absurd (omega arith)
ground_one Swamp Swamp e = refl

grounds_one : (a b : List Ground) → map ground_number a ≡ map ground_number b → a ≡ b
grounds_one [] [] e = refl
grounds_one [] (y ∷ b) e = absurd (cc)
grounds_one (x ∷ a) [] e = absurd (cc)
grounds_one (x ∷ a) (y ∷ b) e =
    let first : ground_number x ≡ ground_number y = cc in
    let rest : map ground_number a ≡ map ground_number b = cc in
    let one : x ≡ y = ground_one x y first in
    let more : a ≡ b = grounds_one a b rest in
    cc

-- a number that is of no ground is in no terrain
grounds_none_at : (ground : Ground) (grounds : List Ground) (i : ℕ) → i < length (map ground_number (ground ∷ grounds)) → ((other : Ground) → get_or (map ground_number (ground ∷ grounds)) i 0 ≡ ground_number other → ⊥) → ⊥
grounds_none_at ground grounds zero below none = none ground refl
grounds_none_at ground [] (suc i) below none = omega arith
grounds_none_at ground (next ∷ grounds) (suc i) below none = grounds_none_at next grounds i (omega arith) none

pub grounds_none : (grounds : List Ground) (numbers : List ℕ) (i : ℕ) → numbers ≡ map ground_number grounds → i < length numbers → ((ground : Ground) → get_or numbers i 0 ≡ ground_number ground → ⊥) → ⊥
grounds_none [] numbers i e below none = omega (arith, ap length e)
grounds_none (ground ∷ grounds) numbers i e below none =
    let P : List ℕ → Type 0 = λ z. i < length z → ((other : Ground) → get_or z i 0 ≡ ground_number other → ⊥) → ⊥ in
    subst P (sym e) (grounds_none_at ground grounds i) below none

pub terrain_one : (a b : List Ground) (text r s : List ℕ) → AreTiles a → AreTiles b → text ≡ terrain_row a r → text ≡ terrain_row b s → (a ≡ b) × (r ≡ s)
terrain_one a b text r s p q e f =
    let sizes : length (map ground_number a) ≡ length (map ground_number b) = length-map a ground_number ∙ p ∙ sym q ∙ sym (length-map b ground_number) in
    let one = text_one (map ground_number a) (map ground_number b) r s sizes (sym e ∙ f) in
    (grounds_one a b one.0, one.1)

-- fewer bytes are no terrain
pub terrain_short : (grounds : List Ground) (text rest : List ℕ) → length text < 2500 → AreTiles grounds → text ≡ terrain_row grounds rest → ⊥
terrain_short grounds text rest short tiles e = omega (arith, tiles, ap length e, length-append (map ground_number grounds) rest, length-map grounds ground_number)

-- the numbers that were read are those of the terrain
pub terrain_numbers : (grounds : List Ground) (text numbers left rest : List ℕ) → text ≡ numbers ++ left → length numbers ≡ 2500 → AreTiles grounds → text ≡ terrain_row grounds rest → numbers ≡ map ground_number grounds
terrain_numbers grounds text numbers left rest e size tiles f =
    (text_one numbers (map ground_number grounds) left rest (size ∙ sym tiles ∙ sym (length-map grounds ground_number)) (sym e ∙ f)).0

pub terrain_whole : (grounds read : List Ground) (text numbers rest : List ℕ) → text ≡ numbers ++ rest → length numbers ≡ 2500 → numbers ≡ map ground_number read → grounds ≡ read → Leads AreTiles terrain_row text grounds rest
terrain_whole grounds read text numbers rest e size f same =
    let counted : length read ≡ 2500 = sym (length-map read ground_number) ∙ sym (ap length f) ∙ size in
    (ap length same ∙ counted, e ∙ ap (λ (z : List ℕ). z ++ rest) (f ∙ ap (λ (z : List Ground). map ground_number z) (sym same)))

pub grounds_counted : (read : List Ground) (numbers : List ℕ) → length numbers ≡ 2500 → numbers ≡ map ground_number read → length read ≡ 2500
grounds_counted read numbers size f = sym (length-map read ground_number) ∙ sym (ap length f) ∙ size

-- ---- a room

four_parts : {A : Type 0} (a b c d rest : List A) → a ++ b ++ c ++ d ++ rest ≡ a ++ (b ++ (c ++ (d ++ rest)))
four_parts a b c d rest =
    append_assoc (a ++ b ++ c) d rest ∙ append_assoc (a ++ b) c (d ++ rest) ∙ append_assoc a b (c ++ (d ++ rest))

pub room_parts : (room : Room) (rest : List ℕ) → base_room_row room rest ≡ name_row room.name (terrain_row room.terrain (room_bytes room.table ++ rest))
unfolding base_room
room_parts room rest = four_parts (signed_bytes room.name.column) (signed_bytes room.name.row) (map ground_number room.terrain) (room_bytes room.table) rest

-- a table at the front of bytes, by its form
pub table_begins : (table : Table) (text rest : List ℕ) → HasRoomForm table → table ≡ without_spare table → text ≡ room_bytes table ++ rest → Begins SpellsRoom text table rest
table_begins table text rest form full e = (room_bytes table, (form, full, refl), e)

room_same : (a b : Room) → a.name ≡ b.name → a.terrain ≡ b.terrain → a.table ≡ b.table → a ≡ b
room_same a b e f g = λ i. record { name = e i; terrain = f i; table = g i }

pub base_rooms_are_one : IsOne HasBaseRoomForm base_room
base_rooms_are_one a b text r s p q e f =
    let one = name_one a.name b.name text _ _ p.name q.name (e ∙ room_parts a r) (f ∙ room_parts b s) in
    let two = terrain_one a.terrain b.terrain (terrain_row a.terrain (room_bytes a.table ++ r)) (room_bytes a.table ++ r) (room_bytes b.table ++ s) p.tiles q.tiles refl one.1 in
    let three = room_one (room_bytes a.table ++ r) a.table b.table r s (table_begins a.table _ r p.objects p.full refl) (table_begins b.table _ s q.objects q.full two.1) in
    (room_same a b one.0 two.0 three.0, three.1)

-- what stands behind a name that was read
pub behind_name : (room : Room) (name : RoomName) (text left rest : List ℕ) → HasBaseRoomForm room → Leads IsInRange name_row text name left → text ≡ base_room_row room rest → left ≡ terrain_row room.terrain (room_bytes room.table ++ rest)
behind_name room name text left rest form read e =
    (name_one name room.name text left (terrain_row room.terrain (room_bytes room.table ++ rest)) read.0 form.name read.1 (e ∙ room_parts room rest)).1

-- what stands behind a terrain that was read
pub behind_terrain : (room : Room) (name : RoomName) (grounds : List Ground) (text left behind rest : List ℕ) → HasBaseRoomForm room → Leads IsInRange name_row text name left → Leads AreTiles terrain_row left grounds behind → text ≡ base_room_row room rest → behind ≡ room_bytes room.table ++ rest
behind_terrain room name grounds text left behind rest form read next e =
    (terrain_one grounds room.terrain left behind (room_bytes room.table ++ rest) next.0 form.tiles next.1 (behind_name room name text left rest form read e)).1

pub room_whole : (room : Room) (text left behind rest : List ℕ) → Leads IsInRange name_row text room.name left → Leads AreTiles terrain_row left room.terrain behind → Begins SpellsRoom behind room.table rest → Leads HasBaseRoomForm base_room_row text room rest
room_whole room text left behind rest name terrain (front, (form, full, spelled), e) =
    let table : behind ≡ room_bytes room.table ++ rest = e ∙ ap (λ (z : List ℕ). z ++ rest) spelled in
    let whole : text ≡ base_room_row room rest =
    name.1 ∙ ap (λ (z : List ℕ). name_row room.name z) (terrain.1 ∙ ap (λ (z : List ℕ). terrain_row room.terrain z) table) ∙ sym (room_parts room rest) in
    (record { name = name.0; tiles = terrain.0; objects = form; full = full }, whole)

-- ---- rooms

place_push : (first : ℕ) (rooms : List Room) (new : Room) → ((k : ℕ) (room : Room) → slice_get rooms k ≡ Some room → room.table.index ≡ first + k) → new.table.index ≡ first + length rooms
    → (k : ℕ) (room : Room) → slice_get (rooms ++ new ∷ []) k ≡ Some room → room.table.index ≡ first + k
place_push first [] new places last zero room e = let same : new ≡ room = cc in ap (λ (r : Room). r.table.index) (sym same) ∙ last
place_push first [] new places last (suc k) room e = absurd cc
place_push first (x ∷ rooms) new places last zero room e = places 0 room e
place_push first (x ∷ rooms) new places last (suc k) room e =
    let later = place_push (suc first) rooms new (λ (j : ℕ) (r : Room) (at : slice_get rooms j ≡ Some r). places (suc j) r at ∙ omega arith) (last ∙ omega arith) k room e in
    later ∙ omega arith

-- a room in its place makes a longer list of rooms in their places
pub places_push : (rooms : List Room) (new : Room) → AreInPlace rooms → new.table.index ≡ length rooms → AreInPlace (rooms ++ new ∷ [])
places_push rooms new places last k room e = place_push 0 rooms new (λ (j : ℕ) (r : Room) (at : slice_get rooms j ≡ Some r). places j r at ∙ omega arith) (last ∙ omega arith) k room e ∙ omega arith

seam_at : (read : List Room) (room : Room) (more : List Room) → slice_get (read ++ room ∷ more) (length read) ≡ Some room
seam_at [] room more = refl
seam_at (x ∷ read) room more = seam_at read room more

-- where a room is not in its place, no list goes on
pub out_of_place : (read : List Room) (room : Room) (more : List Room) → AreInPlace (read ++ room ∷ more) → room.table.index ≡ length read
out_of_place read room more places = places (length read) room (seam_at read room more)

pub places_none : AreInPlace []
places_none place room at = absurd cc

rooms_parts : (rooms : List Room) (rest : List ℕ) → base_rooms_row rooms rest ≡ little_bytes 4 (length rooms) ++ list_row base_room rooms rest
rooms_parts rooms rest = append_assoc (little_bytes 4 (length rooms)) (flat_map base_room rooms) rest

-- what stands behind the number of rooms
pub record BehindRooms (count : ℕ) (left rest : List ℕ) (rooms : List Room) : Type 0 where
  pub are : AreListed AreInPlace HasBaseRoomForm count rooms
  pub behind : left ≡ list_row base_room rooms rest

pub behind_rooms : (rooms : List Room) (count : ℕ) (text left rest : List ℕ) → count < 2 ^ 32 → HasBaseRooms rooms → text ≡ little_bytes 4 count ++ left → text ≡ base_rooms_row rooms rest → BehindRooms count left rest rooms
behind_rooms rooms count text left rest fits form e f =
    let most = form.most in
    let one = behind_word 4 count (length rooms) text left (list_row base_room rooms rest) fits (omega arith) e (f ∙ rooms_parts rooms rest) in
    record { are = record { order = form.places; forms = form.forms; counted = sym one.0 }; behind = one.1 }

-- fewer bytes are no rooms
pub rooms_short : (rooms : List Room) (text rest : List ℕ) → length text < 4 → text ≡ base_rooms_row rooms rest → ⊥
rooms_short rooms text rest short e = omega (arith, ap length (e ∙ rooms_parts rooms rest))

pub rooms_whole : (rooms : List Room) (count : ℕ) (text left rest : List ℕ) → 1 ≤ count → count ≤ 400 → text ≡ little_bytes 4 count ++ left → Leads (AreListed AreInPlace HasBaseRoomForm count) (list_row base_room) left rooms rest → Leads HasBaseRooms base_rooms_row text rooms rest
rooms_whole rooms count text left rest some most e (are, f) =
    let counted = are.counted in
    let whole : text ≡ base_rooms_row rooms rest =
    e ∙ ap (λ (z : List ℕ). little_bytes 4 count ++ z) f ∙ ap (λ (n : ℕ). little_bytes 4 n ++ list_row base_room rooms rest) (sym counted) ∙ sym (rooms_parts rooms rest) in
    (record { some = omega arith; most = omega arith; forms = are.forms; places = are.order }, whole)

pub rooms_one : (a b : List Room) (text r s : List ℕ) → HasBaseRooms a → HasBaseRooms b → text ≡ base_rooms_row a r → text ≡ base_rooms_row b s → (a ≡ b) × (r ≡ s)
rooms_one a b text r s p q e f =
    let most = p.most in
    let next = behind_rooms b (length a) text (list_row base_room a r) s (omega arith) q (e ∙ rooms_parts a r) f in
    let are = next.are in
    lists_one HasBaseRoomForm base_room base_rooms_are_one a b (list_row base_room a r) r s (sym are.counted) p.forms are.forms refl next.behind

-- ---- accounts

pub accounts_begin : (accounts : List Account) (text rest : List ℕ) → HasAccountsForm accounts → text ≡ accounts_row accounts rest → Begins SpellsAccounts text accounts rest
accounts_begin accounts text rest form e = (listed account_bytes accounts, (form, refl), e)

pub accounts_lead : (text : List ℕ) (accounts : List Account) (rest : List ℕ) → Begins SpellsAccounts text accounts rest → HasAccountsForm accounts × (text ≡ accounts_row accounts rest)
accounts_lead text accounts rest (front, (form, spelled), e) = (form, e ∙ ap (λ (z : List ℕ). z ++ rest) spelled)

pub base_accounts_one : (a b : List Account) (text r s : List ℕ) → HasAccountsForm a → HasAccountsForm b → text ≡ accounts_row a r → text ≡ accounts_row b s → (a ≡ b) × (r ≡ s)
base_accounts_one a b text r s p q e f = accounts_one text a b r s (accounts_begin a text r p e) (accounts_begin b text s q f)

-- ---- a world

seven_parts : {A : Type 0} (a b c d e f g : List A) → a ++ b ++ c ++ d ++ e ++ f ++ g ≡ a ++ (b ++ (c ++ ((d ++ e) ++ ((f ++ g) ++ []))))
seven_parts {A} a b c d e f g =
    append_assoc (a ++ b ++ c ++ d ++ e) f g
    ∙ append_assoc (a ++ b ++ c ++ d) e (f ++ g)
    ∙ append_assoc (a ++ b ++ c) d (e ++ (f ++ g))
    ∙ append_assoc (a ++ b) c (d ++ (e ++ (f ++ g)))
    ∙ append_assoc a b (c ++ (d ++ (e ++ (f ++ g))))
    ∙ ap (λ (z : List A). a ++ (b ++ (c ++ z))) (sym (append_assoc d e (f ++ g)) ∙ ap (λ (z : List A). (d ++ e) ++ z) (sym (append-nil (f ++ g))))

pub base_parts : (world : Stored) → base_content world ≡ start_row world.tick (base_rooms_row world.rooms (accounts_row world.accounts []))
unfolding base_content
base_parts world =
    seven_parts magic (little_bytes 4 1) (little_bytes 8 world.tick) (little_bytes 4 (length world.rooms)) (flat_map base_room world.rooms) (little_bytes 4 (length world.accounts)) (flat_map account_bytes world.accounts)

-- what stands behind the tick, where a world is spelled
pub behind_start : (world : Stored) (tick : ℕ) (text left : List ℕ) → Leads IsTick start_row text tick left → SpellsBase text world → (tick ≡ world.tick) × (left ≡ base_rooms_row world.rooms (accounts_row world.accounts []))
behind_start world tick text left (fits, e) (form, f) =
    let most = form.tick in
    start_one tick world.tick text left _ (omega arith) (omega arith) e (f ∙ base_parts world)

-- what stands behind the rooms
pub behind_base_rooms : (world : Stored) (tick : ℕ) (rooms : List Room) (text left behind : List ℕ) → Leads IsTick start_row text tick left → Leads HasBaseRooms base_rooms_row left rooms behind → SpellsBase text world → behind ≡ accounts_row world.accounts []
behind_base_rooms world tick rooms text left behind start (form', e) spells =
    (rooms_one rooms world.rooms left behind (accounts_row world.accounts []) form' spells.0.rooms e (behind_start world tick text left start spells).1).1

-- what stands behind the accounts: nothing
pub behind_accounts : (world : Stored) (tick : ℕ) (rooms : List Room) (accounts : List Account) (text left behind rest : List ℕ) → Leads IsTick start_row text tick left → Leads HasBaseRooms base_rooms_row left rooms behind → Leads HasBaseAccounts accounts_row behind accounts rest → SpellsBase text world → rest ≡ []
behind_accounts world tick rooms accounts text left behind rest start next (form', e) spells =
    (base_accounts_one accounts world.accounts behind rest [] form'.forms spells.0.accounts.forms e (behind_base_rooms world tick rooms text left behind start next spells)).1

pub base_whole : (world : Stored) (tick : ℕ) (text left behind rest : List ℕ) → world.tick ≡ tick → Leads IsTick start_row text tick left → Leads HasBaseRooms base_rooms_row left world.rooms behind → Leads HasBaseAccounts accounts_row behind world.accounts rest → length rest ≤ 0 → SpellsBase text world
base_whole world tick text left behind rest same (fits, e) (rooms, f) (accounts, g) most =
    let whole : text ≡ base_content world =
    e ∙ ap (λ (z : ℕ). start_row z left) (sym same) ∙ ap (λ (z : List ℕ). start_row world.tick z) (f ∙ ap (λ (z : List ℕ). base_rooms_row world.rooms z) (g ∙ ap (λ (z : List ℕ). accounts_row world.accounts z) (nothing_left rest most))) ∙ sym (base_parts world) in
    (record { tick = omega (arith, same, fits); rooms = rooms; accounts = accounts }, whole)
  where
    nothing_left : (rest : List ℕ) → length rest ≤ 0 → rest ≡ []
    nothing_left [] most = refl
    nothing_left (x ∷ rest) most = absurd (omega arith)

-- bytes spell one world
pub base_one : (text : List ℕ) (a b : Stored) → SpellsBase text a → SpellsBase text b → a ≡ b
base_one text a b (form, e) (form', f) =
    let tick = form.tick in
    let tick' = form'.tick in
    let one = start_one a.tick b.tick text (base_rooms_row a.rooms (accounts_row a.accounts [])) (base_rooms_row b.rooms (accounts_row b.accounts [])) (omega arith) (omega arith) (e ∙ base_parts a) (f ∙ base_parts b) in
    let two = rooms_one a.rooms b.rooms (base_rooms_row a.rooms (accounts_row a.accounts [])) (accounts_row a.accounts []) (accounts_row b.accounts []) form.rooms form'.rooms refl one.1 in
    let three = base_accounts_one a.accounts b.accounts (accounts_row a.accounts []) [] [] form.accounts.forms form'.accounts.forms refl two.1 in
    λ i. record { tick = one.0 i; rooms = two.0 i; accounts = three.0 i }

-- ---- a world as it is read

pub flat_same : {A B : Type 0} (f : A → List B) (g : A → A) → ((x : A) → f (g x) ≡ f x) → (xs : List A) → flat_map f (map g xs) ≡ flat_map f xs
flat_same f g same [] = refl
flat_same f g same (x ∷ xs) = let rest = flat_same f g same xs in λ i. same x i ++ rest i

room_as_read_same : (room : Room) → base_room (room_as_read room) ≡ base_room room
unfolding base_room room_bytes
room_as_read_same room = refl

-- what is written of a world is written of it as it is read
pub as_read_same : (world : Stored) → base_content (world_as_read world) ≡ base_content world
unfolding base_content
as_read_same world =
    let many : length (map room_as_read world.rooms) ≡ length world.rooms = length-map world.rooms room_as_read in
    let flat = flat_same base_room room_as_read room_as_read_same world.rooms in
    rw (many, flat) refl

pub as_read_spelled : (world : Stored) → HasBaseForm (world_as_read world) → SpellsBase (base_content world) (world_as_read world)
as_read_spelled world form = (form, sym (as_read_same world))
