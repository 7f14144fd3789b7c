-- The objects of one room among those of all.
use Rattle.std.proofs.Common.{◌≡◌, ℕ, zero, suc, ◌+◌, ◌<◌, ◌≤◌, if◌then◌else◌, Bool, true, false, cond, List, [], ◌∷◌, ◌++◌, map, Option, Some, None, option_and_then, refl, sym, ap, subst, ◌∙◌, arith}
use Rattle.std.specs.Prelude.{slice_get}
use Rattle.std.specs.Option.{option_or}
use Rattle.std.specs.Ordering.{nat_cmp, eq_by_cmp}
use Rattle.std.specs.Cmp.{nat_cmp_total, unsigned_tied}
use Rattle.std.specs.FinMap.{find, get, get-from_entries}
use Rattle.std.proofs.lemmas.Bool.{eq-eqb, ne_eqb}
use Rattle.room_table.specs.declared.object.Object.{Object}
use Rattle.world_rules.specs.World.{Placed, ListedRoom, Listing, placed_from, framed_from, world_listed}
use Rattle.world_rules.proofs.Parts.{put_in, only}
use Rattle.world_rules.proofs.Keys.{keyed, find_append}
use Rattle.world_rules.proofs.Entries.{times, times_append, some_times, no_times}

abbrev pub tagged : ℕ → Object → ℕ × Placed
tagged index object = (object.id, record { room = index; object = object })

find_tagged : (q index : ℕ) (objects : List Object) → find nat_cmp q (map (tagged index) objects) ≡ put_in index (find nat_cmp q (keyed (λ object. object.id) objects))
find_tagged q index [] = refl
find_tagged q index (object ∷ objects) =
    let rest = find_tagged q index objects in
    elim (eq_by_cmp nat_cmp q object.id) as (λ b. cond b (Some (tagged index object).1) (find nat_cmp q (map (tagged index) objects)) ≡ put_in index (cond b (Some object) (find nat_cmp q (keyed (λ object. object.id) objects)))) [ true ↦ refl | false ↦ rest ]

found_in : (q index : ℕ) (room : ListedRoom) (rooms : List ListedRoom) → find nat_cmp q (placed_from index (room ∷ rooms)) ≡ option_or (put_in index (find nat_cmp q (keyed (λ object. object.id) room.objects))) (find nat_cmp q (placed_from (suc index) rooms))
found_in q index room rooms =
    find_append q (map (tagged index) room.objects) (placed_from (suc index) rooms) ∙ ap (λ found. option_or found (find nat_cmp q (placed_from (suc index) rooms))) (find_tagged q index room.objects)

other_room : (k index : ℕ) (found : Option Object) (rest : Option Placed) → (index ≡ k → ⊥) → option_and_then (only k) rest ≡ None → option_and_then (only k) (option_or (put_in index found) rest) ≡ None
other_room k index None rest apart none = none
other_room k index (Some object) rest apart none = ap (λ (b : Bool). if b then Some object else None) (ne_eqb index k apart)

later_rooms : (k index : ℕ) (rooms : List ListedRoom) (q : ℕ) → k < index → option_and_then (only k) (find nat_cmp q (placed_from index rooms)) ≡ None
later_rooms k index [] q less = refl
later_rooms k index (room ∷ rooms) q less =
    ap (option_and_then (only k)) (found_in q index room rooms)
    ∙ other_room k index (find nat_cmp q (keyed (λ object. object.id) room.objects)) _ (λ same. omega arith) (later_rooms k (suc index) rooms q (omega arith))

here : (k index : ℕ) (found : Option Object) (rest : Option Placed) → index ≡ k → option_and_then (only k) rest ≡ None → found ≡ option_and_then (only k) (option_or (put_in index found) rest)
here k index None rest same none = sym none
here k index (Some object) rest same none = sym (ap (λ (b : Bool). if b then Some object else None) (eq-eqb index k same))

there : (k index : ℕ) (found : Option Object) (rest : Option Placed) (mine : Option Object) → (index ≡ k → ⊥) → mine ≡ option_and_then (only k) rest → ((object : Object) → found ≡ Some object → rest ≡ None) → mine ≡ option_and_then (only k) (option_or (put_in index found) rest)
there k index None rest mine apart is once = is
there k index (Some object) rest mine apart is once = is ∙ ap (option_and_then (only k)) (once object refl) ∙ sym (ap (λ (b : Bool). if b then Some object else None) (ne_eqb index k apart))

-- where ids stand once, what is found in a room is what is found among all and stands in that room
pub room_find : (k index j : ℕ) (rooms : List ListedRoom) (room : ListedRoom) (q : ℕ) → k ≡ index + j → slice_get rooms j ≡ Some room → times q (placed_from index rooms) ≤ 1
    → find nat_cmp q (keyed (λ object. object.id) room.objects) ≡ option_and_then (only k) (find nat_cmp q (placed_from index rooms))
room_find k index j [] room q at is once = absurd cc
room_find k index zero (first ∷ rooms) room q at is once =
    let same : first ≡ room = cc in
    subst (λ (r : ListedRoom). find nat_cmp q (keyed (λ object. object.id) r.objects) ≡ option_and_then (only k) (find nat_cmp q (placed_from index (first ∷ rooms)))) same
    (here k index (find nat_cmp q (keyed (λ object. object.id) first.objects)) _ (omega arith) (later_rooms k (suc index) rooms q (omega arith)) ∙ sym (ap (option_and_then (only k)) (found_in q index first rooms)))
room_find k index (suc j) (first ∷ rooms) room q at is once =
    let objects = map (tagged index) first.objects in
    let rest = placed_from (suc index) rooms in
    let all : times q (objects ++ rest) ≡ times q objects + times q rest = times_append q objects rest in
    let whole : times q (objects ++ rest) ≤ 1 = once in
    there k index (find nat_cmp q (keyed (λ object. object.id) first.objects)) (find nat_cmp q rest) _ (λ same. omega arith) (room_find k (suc index) j rooms room q (omega arith) is (omega arith))
    (λ object found. let one : 1 ≤ times q objects = some_times q objects _ (find_tagged q index first.objects ∙ ap (put_in index) found) in no_times q rest (omega arith))
    ∙ sym (ap (option_and_then (only k)) (found_in q index first rooms))

-- nothing stands past the rooms
pub past_rooms : (k index j : ℕ) (rooms : List ListedRoom) (q : ℕ) → k ≡ index + j → slice_get rooms j ≡ None → option_and_then (only k) (find nat_cmp q (placed_from index rooms)) ≡ None
past_rooms k index j [] q at is = refl
past_rooms k index zero (room ∷ rooms) q at is = absurd (cc)
past_rooms k index (suc j) (room ∷ rooms) q at is =
    ap (option_and_then (only k)) (found_in q index room rooms)
    ∙ other_room k index (find nat_cmp q (keyed (λ object. object.id) room.objects)) _ (λ same. omega arith) (past_rooms k (suc index) j rooms q (omega arith) is)

-- ---- the frames of listed rooms

frame_from : (q index k : ℕ) (rooms : List ListedRoom) → q ≡ index + k → find nat_cmp q (framed_from index rooms) ≡ slice_get (map (λ (room : ListedRoom). room.frame) rooms) k
frame_from q index k [] at = refl
frame_from q index zero (room ∷ rooms) at = ap (λ (b : Bool). cond b (Some room.frame) (find nat_cmp q (framed_from (suc index) rooms))) (unsigned_tied q index ∙ eq-eqb q index (omega arith))
frame_from q index (suc k) (room ∷ rooms) at =
    ap (λ (b : Bool). cond b (Some room.frame) (find nat_cmp q (framed_from (suc index) rooms))) (unsigned_tied q index ∙ ne_eqb q index (λ same. omega arith))
    ∙ frame_from q (suc index) k rooms (omega arith)

-- a listed world has the frame of each listed room under its place
pub frame_listed : (listing : Listing) (k : ℕ) → get (world_listed listing).rooms k ≡ slice_get (map (λ (room : ListedRoom). room.frame) listing.rooms) k
frame_listed listing k = get-from_entries nat_cmp_total (framed_from 0 listing.rooms) k ∙ frame_from k 0 k listing.rooms (omega arith)
