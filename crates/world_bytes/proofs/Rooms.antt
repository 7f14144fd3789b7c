-- Rooms and accounts at the front of the same bytes.
use Rattle.std.proofs.Common.{◌≡◌, ℕ, suc, ◌<◌, ◌≤◌, ◌^◌, List, [], ◌∷◌, ◌++◌, length, get_or, sym, subst, ap, ◌∙◌, refl, arith, length-append}
use Rattle.std.specs.List.{AllByRecursion}
use Rattle.byte_fields.specs.Front.{Begins, BeginsNone}
use Rattle.byteorder.specs.Endian.{little_bytes}
use Rattle.room_table.specs.Tables.{Table, without_spare}
use Rattle.room_table.specs.Tallies.{no_tallies}
use Rattle.object_store.specs.declared.account.Account.{Account}
use Rattle.world_bytes.specs.Forms.{HasAccountForm, HasRoomForm, SpellsAccount, SpellsRoom, account_bytes, room_bytes}
use Rattle.world_bytes.specs.inner.Rows.{Leads, AreObjects, objects_row, HasMemoryForm, memory_row}
use Rattle.world_bytes.proofs.Words.{text_one, behind_word, word_short}
use Rattle.world_bytes.proofs.Lists.{objects_one}

-- ---- rooms

pub room_row : Table → List ℕ → List ℕ
room_row table rest = little_bytes 4 table.index ++ (little_bytes 4 table.next ++ (little_bytes 4 (length table.objects) ++ objects_row table.objects rest))

-- The bytes are those of a room, in front of the rest.
pub record LeadsRoom (bytes : List ℕ) (table : Table) (rest : List ℕ) : Type 0 where
  pub form : HasRoomForm table
  pub full : table ≡ without_spare table
  pub whole : bytes ≡ room_row table rest

room_parts : (table : Table) (rest : List ℕ) → room_bytes table ++ rest ≡ room_row table rest
unfolding room_bytes room_row
room_parts table rest = refl

pub leads_room : (bytes : List ℕ) (table : Table) (rest : List ℕ) → Begins SpellsRoom bytes table rest → LeadsRoom bytes table rest
leads_room bytes table rest (text, (form, full, spelled), e) =
    record { form = form; full = full; whole = e ∙ ap (λ (z : List ℕ). z ++ rest) spelled ∙ room_parts table rest }

pub room_begins : (table : Table) (bytes a b rest : List ℕ) → HasRoomForm table → table ≡ without_spare table → bytes ≡ little_bytes 4 table.index ++ a → a ≡ little_bytes 4 table.next ++ b → b ≡ little_bytes 4 (length table.objects) ++ objects_row table.objects rest → Begins SpellsRoom bytes table rest
unfolding room_row
room_begins table bytes a b rest form full e f g =
    let whole : bytes ≡ room_row table rest = e ∙ ap (λ (z : List ℕ). little_bytes 4 table.index ++ z) (f ∙ ap (λ (z : List ℕ). little_bytes 4 table.next ++ z) g) in
    (room_bytes table, (form, full, refl), whole ∙ sym (room_parts table rest))

room_row_short : (table : Table) (rest bytes : List ℕ) → length bytes < 12 → bytes ≡ room_row table rest → ⊥
unfolding room_row
room_row_short table rest bytes short e = omega (arith, ap length e)

-- fewer bytes are no room
pub room_short : (bytes : List ℕ) → length bytes < 12 → BeginsNone SpellsRoom bytes
room_short bytes short = λ table rest begins.
    let leads = leads_room bytes table rest begins in
    room_row_short table rest bytes short leads.whole

-- what is behind the numbers that were read
pub record BehindCount (table : Table) (index next count : ℕ) (left rest : List ℕ) : Type 0 where
  pub index_same : index ≡ table.index
  pub next_same : next ≡ table.next
  pub count_same : count ≡ length table.objects
  pub behind : left ≡ objects_row table.objects rest

pub behind_count : (table : Table) (index next count : ℕ) (bytes a b left rest : List ℕ) → index < 2 ^ 32 → next < 2 ^ 32 → count < 2 ^ 32 → bytes ≡ little_bytes 4 index ++ a → a ≡ little_bytes 4 next ++ b → b ≡ little_bytes 4 count ++ left → LeadsRoom bytes table rest → BehindCount table index next count left rest
unfolding room_row
behind_count table index next count bytes a b left rest p q r e f g leads =
    let form = leads.form in
    let one = behind_word 4 index table.index bytes a _ p form.index e leads.whole in
    let two = behind_word 4 next table.next a b _ q form.next f one.1 in
    let three = behind_word 4 count (length table.objects) b left (objects_row table.objects rest) r form.count g two.1 in
    record { index_same = one.0; next_same = two.0; count_same = three.0; behind = three.1 }

pub behind_next : (table : Table) (index next : ℕ) (bytes a b rest : List ℕ) → index < 2 ^ 32 → next < 2 ^ 32 → bytes ≡ little_bytes 4 index ++ a → a ≡ little_bytes 4 next ++ b → LeadsRoom bytes table rest → next ≡ table.next
unfolding room_row
behind_next table index next bytes a b rest p q e f leads =
    let form = leads.form in
    let one = behind_word 4 index table.index bytes a _ p form.index e leads.whole in
    (behind_word 4 next table.next a b _ q form.next f one.1).0

pub room_objects : (table : Table) (count : ℕ) → HasRoomForm table → count ≡ length table.objects → AreObjects count table.objects
room_objects table count form e = record { rising = form.rising; forms = form.objects; counted = sym e }

-- tables as they are read, which list the same
table_same : (a b : Table) → a.index ≡ b.index → a.next ≡ b.next → a.objects ≡ b.objects → a ≡ without_spare a → b ≡ without_spare b → a ≡ b
table_same a b e f g full other =
    full ∙ (λ i. record { index = e i; next = f i; objects = g i; spare = 0; tallies = no_tallies }) ∙ sym other

pub room_one : (bytes : List ℕ) (one other : Table) (rest more : List ℕ) → Begins SpellsRoom bytes one rest → Begins SpellsRoom bytes other more → (one ≡ other) × (rest ≡ more)
unfolding room_row
room_one bytes one other rest more first second =
    let a = leads_room bytes one rest first in
    let b = leads_room bytes other more second in
    let form = a.form in
    let form' = b.form in
    let same = behind_count other one.index one.next (length one.objects) bytes _ _ (objects_row one.objects rest) more form.index form.next form.count a.whole refl refl b in
    let lists = objects_one one.objects other.objects (objects_row one.objects rest) rest more same.count_same form.objects form'.objects refl same.behind in
    (table_same one other same.index_same same.next_same lists.0 a.full b.full, lists.1)

-- ---- a memory text

pub memory_short : (text rest bytes : List ℕ) → length bytes < 4 → bytes ≡ memory_row text rest → ⊥
unfolding memory_row
memory_short text rest bytes short e = word_short 4 (length text) bytes (text ++ rest) short e

-- what is behind the length that was read
pub memory_behind : (text rest : List ℕ) (count : ℕ) (bytes left : List ℕ) → count < 2 ^ 32 → HasMemoryForm text → bytes ≡ little_bytes 4 count ++ left → bytes ≡ memory_row text rest → (count ≡ length text) × (left ≡ text ++ rest)
unfolding memory_row
memory_behind text rest count bytes left fits form e f =
    let most = form.memory in
    behind_word 4 count (length text) bytes left (text ++ rest) fits (omega arith) e f

pub memory_behind_short : (text rest : List ℕ) (count : ℕ) (bytes left : List ℕ) → count < 2 ^ 32 → HasMemoryForm text → bytes ≡ little_bytes 4 count ++ left → length left < count → bytes ≡ memory_row text rest → ⊥
memory_behind_short text rest count bytes left fits form e short f =
    let one = memory_behind text rest count bytes left fits form e f in
    omega (arith, one.0, ap length one.1, length-append text rest)

pub all_bytes : (text : List ℕ) → ((i : ℕ) → get_or text i 0 < 256) → AllByRecursion (λ byte. byte < 2 ^ 8) text
all_bytes [] fits = tt
all_bytes (x ∷ text) fits = (fits 0, all_bytes text (λ i. fits (suc i)))

pub memory_whole : (text : List ℕ) (count : ℕ) (bytes left part rest : List ℕ) → bytes ≡ little_bytes 4 count ++ left → left ≡ part ++ rest → length part ≡ count → text ≡ part → count ≤ 65536 → AllByRecursion (λ byte. byte < 2 ^ 8) part → Leads HasMemoryForm memory_row bytes text rest
unfolding memory_row
memory_whole text count bytes left part rest e f size same most fits =
    let counted : count ≡ length text = sym size ∙ sym (ap length same) in
    let whole : bytes ≡ little_bytes 4 (length text) ++ (text ++ rest) =
    e ∙ ap (λ (z : ℕ). little_bytes 4 z ++ left) counted ∙ ap (λ (z : List ℕ). little_bytes 4 (length text) ++ z) (f ∙ ap (λ (z : List ℕ). z ++ rest) (sym same)) in
    (record { memory = omega arith; bytes = subst (λ (z : List ℕ). AllByRecursion (λ byte. byte < 2 ^ 8) z) (sym same) fits }, whole)

memory_one : (one other : List ℕ) (bytes rest more : List ℕ) → HasMemoryForm one → HasMemoryForm other → bytes ≡ memory_row one rest → bytes ≡ memory_row other more → (one ≡ other) × (rest ≡ more)
unfolding memory_row
memory_one one other bytes rest more p q e f =
    let most = p.memory in
    let same = memory_behind other more (length one) bytes (one ++ rest) (omega arith) q e f in
    text_one one other rest more same.0 same.1

-- ---- accounts

pub account_row : Account → List ℕ → List ℕ
account_row account rest =
    little_bytes 4 account.player ++ (little_bytes 4 account.limit ++ (little_bytes 4 account.bucket ++ (little_bytes 8 account.points ++ memory_row account.memory rest)))

-- The bytes are those of an account, in front of the rest.
pub record LeadsAccount (bytes : List ℕ) (account : Account) (rest : List ℕ) : Type 0 where
  pub form : HasAccountForm account
  pub whole : bytes ≡ account_row account rest

account_parts : (account : Account) (rest : List ℕ) → account_bytes account ++ rest ≡ account_row account rest
unfolding account_bytes account_row memory_row
account_parts account rest = refl

pub leads_account : (bytes : List ℕ) (account : Account) (rest : List ℕ) → Begins SpellsAccount bytes account rest → LeadsAccount bytes account rest
leads_account bytes account rest (text, (form, spelled), e) =
    record { form = form; whole = e ∙ ap (λ (z : List ℕ). z ++ rest) spelled ∙ account_parts account rest }

pub account_begins : (account : Account) (bytes a b c d rest : List ℕ) → HasAccountForm account → bytes ≡ little_bytes 4 account.player ++ a → a ≡ little_bytes 4 account.limit ++ b → b ≡ little_bytes 4 account.bucket ++ c → c ≡ little_bytes 8 account.points ++ d → d ≡ memory_row account.memory rest → Begins SpellsAccount bytes account rest
unfolding account_row
account_begins account bytes a b c d rest form e f g h i =
    let whole : bytes ≡ account_row account rest =
    e ∙ ap (λ (z : List ℕ). little_bytes 4 account.player ++ z) (f ∙ ap (λ (z : List ℕ). little_bytes 4 account.limit ++ z) (g ∙ ap (λ (z : List ℕ). little_bytes 4 account.bucket ++ z) (h ∙ ap (λ (z : List ℕ). little_bytes 8 account.points ++ z) i))) in
    (account_bytes account, (form, refl), whole ∙ sym (account_parts account rest))

account_row_short : (account : Account) (rest bytes : List ℕ) → length bytes < 20 → bytes ≡ account_row account rest → ⊥
unfolding account_row
account_row_short account rest bytes short e = omega (arith, ap length e)

-- fewer bytes are no account
pub account_short : (bytes : List ℕ) → length bytes < 20 → BeginsNone SpellsAccount bytes
account_short bytes short = λ account rest begins.
    let leads = leads_account bytes account rest begins in
    account_row_short account rest bytes short leads.whole

-- what is behind the numbers that were read
pub record BehindPoints (account : Account) (player limit bucket points : ℕ) (left rest : List ℕ) : Type 0 where
  pub player_same : player ≡ account.player
  pub limit_same : limit ≡ account.limit
  pub bucket_same : bucket ≡ account.bucket
  pub points_same : points ≡ account.points
  pub behind : left ≡ memory_row account.memory rest

pub behind_points : (account : Account) (player limit bucket points : ℕ) (bytes a b c left rest : List ℕ) → player < 2 ^ 32 → limit < 2 ^ 32 → bucket < 2 ^ 32 → points < 2 ^ 64 → bytes ≡ little_bytes 4 player ++ a → a ≡ little_bytes 4 limit ++ b → b ≡ little_bytes 4 bucket ++ c → c ≡ little_bytes 8 points ++ left → LeadsAccount bytes account rest → BehindPoints account player limit bucket points left rest
unfolding account_row
behind_points account player limit bucket points bytes a b c left rest p q r s e f g h leads =
    let form = leads.form in
    let one = behind_word 4 player account.player bytes a _ p form.player e leads.whole in
    let two = behind_word 4 limit account.limit a b _ q form.limit f one.1 in
    let three = behind_word 4 bucket account.bucket b c _ r form.bucket g two.1 in
    let four = behind_word 8 points account.points c left (memory_row account.memory rest) s form.points h three.1 in
    record { player_same = one.0; limit_same = two.0; bucket_same = three.0; points_same = four.0; behind = four.1 }

pub account_memory : (account : Account) → HasAccountForm account → HasMemoryForm account.memory
account_memory account form = record { memory = form.memory; bytes = form.bytes }

account_from : ℕ → ℕ → ℕ → ℕ → List ℕ → Account
account_from player limit bucket points memory = record { player = player; limit = limit; bucket = bucket; points = points; memory = memory }

account_same : (a b : Account) → a.player ≡ b.player → a.limit ≡ b.limit → a.bucket ≡ b.bucket → a.points ≡ b.points → a.memory ≡ b.memory → a ≡ b
unfolding account_from
account_same a b e f g h i =
    let same : account_from a.player a.limit a.bucket a.points a.memory ≡ account_from b.player b.limit b.bucket b.points b.memory = cc in
    same

pub account_one : (bytes : List ℕ) (one other : Account) (rest more : List ℕ) → Begins SpellsAccount bytes one rest → Begins SpellsAccount bytes other more → (one ≡ other) × (rest ≡ more)
unfolding account_row
account_one bytes one other rest more first second =
    let a = leads_account bytes one rest first in
    let b = leads_account bytes other more second in
    let form = a.form in
    let same = behind_points other one.player one.limit one.bucket one.points bytes _ _ _ (memory_row one.memory rest) more form.player form.limit form.bucket form.points a.whole refl refl refl b in
    let texts = memory_one one.memory other.memory (memory_row one.memory rest) rest more (account_memory one form) (account_memory other b.form) refl same.behind in
    (account_same one other same.player_same same.limit_same same.bucket_same same.points_same texts.0, texts.1)

-- what is written of a room is read as the room
pub room_written : (table : Table) (rest : List ℕ) → HasRoomForm table → Begins SpellsRoom (room_bytes table ++ rest) (without_spare table) rest
unfolding room_bytes
room_written table rest form =
    (room_bytes table, (record { some = form.some; rising = form.rising; objects = form.objects; index = form.index; next = form.next; count = form.count }, refl, refl), refl)
