-- The rooms in the order of their names.
use Rattle.std.proofs.Common.{◌≡◌, ◌≢◌, ℕ, zero, suc, ◌+◌, ◌*◌, ◌^◌, ◌<◌, ◌≤◌, eqb, List, [], ◌∷◌, ◌++◌, length, get_or, set, Some, None, option_map, slice_get, sym, ap, subst, ◌∙◌, refl, inl, inr, arith}
use Rattle.std.specs.Int.{cast_signed, cast_unsigned, w32}
use Rattle.std.specs.List.{AllByRecursion, find, insert}
use Rattle.std.specs.List.Sorted.{IsPartitionPoint}
use Rattle.std.proofs.lemmas.Bool.{cases_lt, ne_eqb}
use Rattle.std.proofs.lemmas.Int.{to_z-of_z}
use Rattle.std.proofs.lemmas.List.{length_push, get_or_append_left, get_or_at}
use Rattle.std.proofs.lemmas.List.Elements.{All-from_recursion}
use Rattle.room_terrain.specs.declared.name.RoomName.{RoomName}
use Rattle.object_store.specs.declared.world.Room.{Room}
use Rattle.object_store.specs.Lending.{with_table}
use Rattle.room_table.specs.inner.Placed.{Among}
use Rattle.object_store.specs.inner.Naming.{name_number, no_name, room_names, sort_number, AreByName, HasNumber}
use Rattle.object_store.specs.Stored.{IsRoomNamed}
use Rattle.room_table.specs.Tables.{Table}
use Rattle.room_table.proofs.Placed.{among_place, among_insert, among_inserted}
use Rattle.room_table.proofs.Rising.{parted, non_decreasing, all_weaker, all_insert, rises-insert, rises_by_same}

some_is : {X : Type 0} {x y : X} → Some x ≡ Some y → x ≡ y
some_is e = cc

none_is : {X : Type 0} {x : X} → None ≡ Some x → ⊥
none_is e = cc

pub named_at : (name : RoomName) (rooms : List Room) (k : ℕ) → IsRoomNamed name rooms k → (k < length (room_names rooms)) × (get_or (room_names rooms) k no_name ≡ name)
named_at name [] k named = absurd (none_is named)
named_at name (room ∷ rooms) zero named = (omega arith, some_is named)
named_at name (room ∷ rooms) (suc k) named = let rest = named_at name rooms k named in ((let within = rest.0 in omega arith), rest.1)

pub is_named : (name : RoomName) (rooms : List Room) (k : ℕ) → k < length rooms → get_or (room_names rooms) k no_name ≡ name → IsRoomNamed name rooms k
is_named name [] k within here = absurd (omega arith)
is_named name (room ∷ rooms) zero within here = ap Some here
is_named name (room ∷ rooms) (suc k) within here = is_named name rooms k (omega arith) here

-- names of one number are one
pub same_name : (one two : RoomName) (first second : ℕ) → HasNumber one first → HasNumber two second → first ≡ second → one ≡ two
same_name one two first second a b same =
    let low = a.low in
    let lower = b.low in
    let first_is : first ≡ cast_unsigned w32 one.column * 2 ^ 32 + cast_unsigned w32 one.row = a.is in
    let second_is : second ≡ cast_unsigned w32 two.column * 2 ^ 32 + cast_unsigned w32 two.row = b.is in
    let columns : cast_unsigned w32 one.column ≡ cast_unsigned w32 two.column = omega arith in
    let rows : cast_unsigned w32 one.row ≡ cast_unsigned w32 two.row = omega arith in
    let column : one.column ≡ two.column = sym (to_z-of_z w32 one.column a.column) ∙ ap (cast_signed w32) columns ∙ to_z-of_z w32 two.column b.column in
    let row : one.row ≡ two.row = sym (to_z-of_z w32 one.row a.row) ∙ ap (cast_signed w32) rows ∙ to_z-of_z w32 two.row b.row in
    ap (λ n. let it : RoomName = record { column = n; row = one.row } in it) column ∙ ap (λ n. let it : RoomName = record { column = two.column; row = n } in it) row

-- a search for a name's number in the order gave a place
module _ (names : List RoomName) (order : List ℕ) (place number : ℕ) (small : length names < 2 ^ 32) (sorted : AreByName names order) (point : IsPartitionPoint (λ room. sort_number names room < number * 2 ^ 32 + 0) (λ room. number * 2 ^ 32 + 0 ≤ sort_number names room) order place) where
  -- every room of the number stands at that place or behind it
  behind : (room : ℕ) → room < length names → name_number (get_or names room no_name) ≡ number → (j : ℕ) × (place ≤ j) × (j < length order) × (get_or order j 0 ≡ room)
  behind room within its =
      let at = among_place room order (sorted.all room within) in
      let j_within : at.0 < length order = at.1 in
      elim (cases_lt at.0 place) [
        | inl before ↦
            let low = point.0 at.0 0 (omega arith) before in
            let same : sort_number names (get_or order at.0 0) ≡ name_number (get_or names room no_name) * 2 ^ 32 + room = ap (sort_number names) at.2 in
            absurd (omega arith)
        | inr later ↦ (at.0, later, j_within, at.2)
      ]

  pub none_past : length order ≤ place → (room : ℕ) → room < length names → name_number (get_or names room no_name) ≢ number
  none_past past room within its = let at = behind room within its in let low = at.1 in let high = at.2 in omega arith

  not_before : place < length order → (room : ℕ) → room < length names → name_number (get_or names room no_name) ≡ number → sort_number names (get_or order place 0) ≤ name_number (get_or names room no_name) * 2 ^ 32 + room
  not_before place_within room within its =
      let at = behind room within its in
      let least = non_decreasing (sort_number names) order sorted.rising place at.0 0 at.1 at.2 in
      subst (λ n. sort_number names (get_or order place 0) ≤ n) (ap (sort_number names) at.3) least

  pub least_of_name : place < length order → name_number (get_or names (get_or order place 0) no_name) ≡ number → (room : ℕ) → room < length names → name_number (get_or names room no_name) ≡ number → get_or order place 0 ≤ room
  least_of_name place_within its room within same =
      let least : name_number (get_or names (get_or order place 0) no_name) * 2 ^ 32 + get_or order place 0 ≤ name_number (get_or names room no_name) * 2 ^ 32 + room = not_before place_within room within same in
      omega arith

  pub none_of_name : place < length order → name_number (get_or names (get_or order place 0) no_name) ≢ number → (room : ℕ) → room < length names → name_number (get_or names room no_name) ≢ number
  none_of_name place_within other room within same =
      let known : get_or order place 0 < length names = All-from_recursion (λ k. k < length names) order sorted.known place 0 place_within in
      let least : name_number (get_or names (get_or order place 0) no_name) * 2 ^ 32 + get_or order place 0 ≤ name_number (get_or names room no_name) * 2 ^ 32 + room = not_before place_within room within same in
      let high : number * 2 ^ 32 + 0 ≤ name_number (get_or names (get_or order place 0) no_name) * 2 ^ 32 + get_or order place 0 = point.1 place 0 (omega arith) place_within in
      other (omega arith)

-- a room is added
module _ (names : List RoomName) (order : List ℕ) (place : ℕ) (name : RoomName) (small : length names < 2 ^ 32) (sorted : AreByName names order) (within : place ≤ length order) (point : IsPartitionPoint (λ room. sort_number names room < name_number name * 2 ^ 32 + length names) (λ room. name_number name * 2 ^ 32 + length names ≤ sort_number names room) order place) where
  abbrev more : List RoomName
  more = names ++ name ∷ []

  old_number : (room : ℕ) → room < length names → sort_number more room ≡ sort_number names room
  old_number room lt = ap (λ n. name_number n * 2 ^ 32 + room) (get_or_append_left names (name ∷ []) no_name room lt)

  new_number : sort_number more (length names) ≡ name_number name * 2 ^ 32 + length names
  new_number = ap (λ n. name_number n * 2 ^ 32 + length names) (get_or_at names name [] no_name (length names) refl)

  known_at : (k d : ℕ) → k < length order → get_or order k d < length names
  known_at k d lt = All-from_recursion (λ room. room < length names) order sorted.known k d lt

  new_point : IsPartitionPoint (λ room. sort_number more room < sort_number more (length names)) (λ room. sort_number more (length names) ≤ sort_number more room) order place
  new_point = (
    (λ k d low lt. let old = old_number (get_or order k d) (known_at k d (omega arith)) in let below = point.0 k d low lt in let new = new_number in omega arith),
    (λ k d low lt. let old = old_number (get_or order k d) (known_at k d lt) in let above = point.1 k d low lt in let new = new_number in omega arith),
  )

  absent : (rooms : List ℕ) → AllByRecursion (λ room. room < length names) rooms → find (λ room. eqb (sort_number more room) (sort_number more (length names))) rooms ≡ None
  absent [] known = refl
  absent (room ∷ rooms) known =
      let lt : room < length names = known.0 in
      let old : sort_number more room ≡ name_number (get_or names room no_name) * 2 ^ 32 + room = old_number room lt in
      let new = new_number in
      let apart : sort_number more room ≢ sort_number more (length names) = λ same. omega arith in
      rw (ne_eqb (sort_number more room) (sort_number more (length names)) apart) (absent rooms known.1)

  pub by_name_more : AreByName more (insert order place (length names))
  by_name_more =
      let count = length_push names name in
      let rises = rises_by_same (sort_number names) (sort_number more) order (all_weaker (λ room. room < length names) (λ room. sort_number more room ≡ sort_number names room) old_number order sorted.known) sorted.rising in record {
        known = all_insert (λ room. room < length more) (length names) order place (all_weaker (λ room. room < length names) (λ room. room < length more) (λ room lt. omega arith) order sorted.known) (omega arith);
        all = λ room lt. elim (cases_lt room (length names)) [
          | inl old ↦ among_insert room (length names) order place (sorted.all room old)
          | inr last ↦ let same : length names ≡ room = omega arith in subst (λ n. Among n (insert order place (length names))) same (among_inserted (length names) order place)
        ];
        rising = rises-insert (sort_number more) (length names) order place rises (parted (sort_number more) (sort_number more (length names)) order place within new_point) (absent order sorted.known);
      }

-- the objects of a room are changed, and not its name
pub names_same : (rooms : List Room) (i : ℕ) (room : Room) (table : Table) → i < length rooms → room ≡ get_or rooms i room → room_names (set rooms i (record room { table = table })) ≡ room_names rooms
names_same [] i room table within read = absurd (omega arith)
names_same (first ∷ rooms) zero room table within read = ap (λ (r : Room). r.name ∷ room_names rooms) read
names_same (first ∷ rooms) (suc i) room table within read = ap (λ names. first.name ∷ names) (names_same rooms i room table (omega arith) read)

pub with_table_is : (rooms : List Room) (i : ℕ) (room : Room) (table : Table) → i < length rooms → room ≡ get_or rooms i room → set rooms i (record room { table = table }) ≡ with_table i table rooms
with_table_is [] i room table within read = absurd (omega arith)
with_table_is (first ∷ rooms) zero room table within read = ap (λ (r : Room). let it : Room = record r { table = table } in it ∷ rooms) read
with_table_is (first ∷ rooms) (suc i) room table within read = ap (λ rs. first ∷ rs) (with_table_is rooms i room table (omega arith) read)

pub table_at : (rooms : List Room) (i : ℕ) (room : Room) → i < length rooms → room ≡ get_or rooms i room → option_map (λ (r : Room). r.table) (slice_get rooms i) ≡ Some room.table
table_at [] i room within read = absurd (omega arith)
table_at (first ∷ rooms) zero room within read = ap (λ (r : Room). Some r.table) (sym read)
table_at (first ∷ rooms) (suc i) room within read = table_at rooms i room (omega arith) read
