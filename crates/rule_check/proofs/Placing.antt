-- The objects of rooms, as the world has them.
use Rattle.std.proofs.Common.{◌≡◌, ℕ, zero, suc, ◌+◌, ◌<◌, ◌≤◌, ◌==◌, List, [], ◌∷◌, ◌++◌, map, length, Bool, true, false, ◌&&◌, cond, Some, refl, sym, ap, ◌∙◌, arith, inl, inr}
use Rattle.std.specs.Prelude.{slice_get}
use Rattle.std.specs.List.{count_by, sum_by, filter}
use Rattle.std.specs.Cmp.{nat_cmp_total}
use Rattle.std.specs.FinMap.{get-from_entries}
use Rattle.std.proofs.lemmas.Bool.{cases_lt, eq-eqb}
use Rattle.std.proofs.lemmas.List.{length-append, length-map}
use Rattle.std.proofs.lemmas.List.Sums.{sum_by-cons, sum_by-append}
use Rattle.std.proofs.lemmas.Option.{same_Some}
use Rattle.room_table.specs.declared.object.Object.{Object}
use Rattle.object_store.specs.declared.account.Account.{Account}
use Rattle.game_tables.specs.Kinds.{is_site}
use Rattle.world_rules.specs.World.{Placed, Frame, Listing, placed, placed_from, world_listed}
use Rattle.world_rules.specs.Rules.{Stands, IsRoom, IsPlayer}
use Rattle.world_rules.proofs.Rooms.{frame_listed}
use Rattle.rule_check.specs.declared.view.RoomView.{RoomView}
use Rattle.rule_check.specs.Views.{viewed, viewed_room, IsOrdered}
use Rattle.rule_check.specs.inner.Checks.{IsListed, ids_in, site_owners_of, owners_in}
use Rattle.rule_check.proofs.Minima.{ids_up}
use Rattle.rule_check.proofs.Twice.{count_two, count_cons}
use Rattle.rule_check.proofs.Found.{mapped_back, mapped_at, left_at, right_at, split_at, found_at, at_found, once_found, times}

abbrev pub the_world : List RoomView → List Account → Listing
the_world rooms accounts = viewed rooms accounts 0

-- ---- rooms

pub frame_at : (rooms : List RoomView) (accounts : List Account) (i : ℕ) (room : RoomView) → slice_get rooms i ≡ Some room → IsRoom (world_listed (the_world rooms accounts)) i (viewed_room room).frame
frame_at rooms accounts i room is = frame_listed (the_world rooms accounts) i ∙ mapped_at (λ listed. listed.frame) (map viewed_room rooms) i (viewed_room room) (mapped_at viewed_room rooms i room is)

pub room_at : (rooms : List RoomView) (accounts : List Account) (i : ℕ) (frame : Frame) → IsRoom (world_listed (the_world rooms accounts)) i frame → (room : RoomView) × (slice_get rooms i ≡ Some room) × ((viewed_room room).frame ≡ frame)
room_at rooms accounts i frame is =
    let listed = mapped_back (λ listed. listed.frame) (map viewed_room rooms) i frame (sym (frame_listed (the_world rooms accounts) i) ∙ is) in
    let room = mapped_back viewed_room rooms i listed.0 listed.1 in
    (room.0, room.1, ap (λ listed. listed.frame) room.2 ∙ listed.2)

-- ---- players

pub player_listed : (rooms : List RoomView) (accounts : List Account) (player : ℕ) → IsPlayer (world_listed (the_world rooms accounts)) player → IsListed accounts player
player_listed rooms accounts player is =
    let entries = map (λ (account : Account). (account.player, account)) accounts in
    let found = found_at player entries is.0 (sym (get-from_entries nat_cmp_total entries player) ∙ is.1) in
    let back = mapped_back (λ (account : Account). (account.player, account)) accounts found.0 (player, is.0) found.1 in
    record { index = found.0; account = back.0; place = back.1; is = ap (λ (e : ℕ × Account). e.0) back.2 }

pub listed_player : (rooms : List RoomView) (accounts : List Account) (player : ℕ) → IsListed accounts player → IsPlayer (world_listed (the_world rooms accounts)) player
listed_player rooms accounts player is =
    let entries = map (λ (account : Account). (account.player, account)) accounts in
    let here : slice_get entries is.index ≡ Some (player, is.account) = mapped_at (λ (account : Account). (account.player, account)) accounts is.index is.account is.place ∙ ap (λ (n : ℕ). Some (n, is.account)) is.is in
    let found = at_found player entries is.index is.account here in
    (found.0, get-from_entries nat_cmp_total entries player ∙ found.1)

-- ---- objects

-- The object stands in the room of its index, and has this id.
pub record InRoom (rooms : List RoomView) (base : ℕ) (n : ℕ) (p : Placed) : Type 0 where
  pub index : ℕ
  pub room : RoomView
  pub place : ℕ
  pub named : p.room ≡ base + index
  pub in_rooms : slice_get rooms index ≡ Some room
  pub in_room : slice_get room.objects.now place ≡ Some p.object
  pub id : p.object.id ≡ n

abbrev entry_at : ℕ → Object → ℕ × Placed
entry_at base object = (object.id, record { room = base; object = object })

pub entries_in : (rooms : List RoomView) (base : ℕ) (k : ℕ) (n : ℕ) (p : Placed) → slice_get (placed_from base (map viewed_room rooms)) k ≡ Some (n, p) → InRoom rooms base n p
entries_in [] base k n p is = absurd cc
entries_in (room ∷ rooms) base k n p is =
    elim (split_at (map (entry_at base) room.objects.now) (placed_from (suc base) (map viewed_room rooms)) k (n, p) is) [
      | inl here ↦ (
          let back = mapped_back (entry_at base) room.objects.now k (n, p) here in
          let object : back.0 ≡ p.object = ap (λ (e : ℕ × Placed). e.1.object) back.2 in
          let room_is : base ≡ p.room = ap (λ (e : ℕ × Placed). e.1.room) back.2 in
          let id : back.0.id ≡ n = ap (λ (e : ℕ × Placed). e.0) back.2 in
          record { index = 0; room = room; place = k; named = omega arith; in_rooms = refl; in_room = back.1 ∙ ap Some object; id = ap (λ (o : Object). o.id) (sym object) ∙ id }
          )
      | inr there ↦ (
          let rest = entries_in rooms (suc base) there.0 n p there.1 in
          let named : p.room ≡ suc base + rest.index = rest.named in
          record { index = suc rest.index; room = rest.room; place = rest.place; named = omega arith; in_rooms = rest.in_rooms; in_room = rest.in_room; id = rest.id }
          )
    ]

pub in_entries : (rooms : List RoomView) (base index : ℕ) (room : RoomView) (place : ℕ) (object : Object) → slice_get rooms index ≡ Some room → slice_get room.objects.now place ≡ Some object
    → (k : ℕ) × (slice_get (placed_from base (map viewed_room rooms)) k ≡ Some (entry_at (base + index) object))
in_entries [] base index room place object is there = absurd cc
in_entries (first ∷ rooms) base zero room place object is there =
    let same : first ≡ room = same_Some first room is in
    let here : slice_get first.objects.now place ≡ Some object = ap (λ (r : RoomView). slice_get r.objects.now place) same ∙ there in
    let index_is : base ≡ base + 0 = omega arith in
    (place, left_at (map (entry_at base) first.objects.now) (placed_from (suc base) (map viewed_room rooms)) place (entry_at base object) (mapped_at (entry_at base) first.objects.now place object here) ∙ ap (λ (i : ℕ). Some (entry_at i object)) index_is)
in_entries (first ∷ rooms) base (suc index) room place object is there =
    let rest = in_entries rooms (suc base) index room place object is there in
    let index_is : suc base + index ≡ base + suc index = omega arith in
    let moved = right_at (map (entry_at base) first.objects.now) (placed_from (suc base) (map viewed_room rooms)) rest.0 (entry_at (suc base + index) object) rest.1 in
    (moved.0, moved.1 ∙ ap (λ (i : ℕ). Some (entry_at i object)) index_is)

-- what stands in the world stands in a room
pub stands_in : (rooms : List RoomView) (accounts : List Account) (n : ℕ) (p : Placed) → Stands (world_listed (the_world rooms accounts)) n p → InRoom rooms 0 n p
stands_in rooms accounts n p is =
    let found = found_at n (placed (the_world rooms accounts)) p (sym (get-from_entries nat_cmp_total (placed (the_world rooms accounts)) n) ∙ is) in
    entries_in rooms 0 found.0 n p found.1

-- No id is there twice.
abbrev pub EachOnce : List RoomView → List Account → Type 0
EachOnce rooms accounts = (n : ℕ) → times n (placed (the_world rooms accounts)) < 2

place_of : (rooms : List RoomView) (index : ℕ) (room : RoomView) (place : ℕ) (object : Object) (n : ℕ) → slice_get rooms index ≡ Some room → slice_get room.objects.now place ≡ Some object → object.id ≡ n
    → (k : ℕ) × (slice_get (placed_from 0 (map viewed_room rooms)) k ≡ Some (n, record { room = index; object = object }))
place_of rooms index room place object n is there id =
    let here = in_entries rooms 0 index room place object is there in
    let index_is : 0 + index ≡ index = omega arith in
    (here.0, here.1 ∙ (λ i. Some (id i, record { room = index_is i; object = object })))

-- an object of a room stands in the world, where no id is there twice
pub one_stands : (rooms : List RoomView) (accounts : List Account) → EachOnce rooms accounts → (index : ℕ) (room : RoomView) (place : ℕ) (object : Object) (n : ℕ) → slice_get rooms index ≡ Some room → slice_get room.objects.now place ≡ Some object → object.id ≡ n
    → Stands (world_listed (the_world rooms accounts)) n (record { room = index; object = object })
one_stands rooms accounts once index room place object n is there id =
    let here = place_of rooms index room place object n is there id in
    get-from_entries nat_cmp_total (placed (the_world rooms accounts)) n ∙ once_found n (placed (the_world rooms accounts)) here.0 (record { room = index; object = object }) here.1 (once n)

-- the id of an object of a room stands in the world
pub some_stands : (rooms : List RoomView) (accounts : List Account) (index : ℕ) (room : RoomView) (place : ℕ) (object : Object) (n : ℕ) → slice_get rooms index ≡ Some room → slice_get room.objects.now place ≡ Some object → object.id ≡ n
    → (p : Placed) × Stands (world_listed (the_world rooms accounts)) n p
some_stands rooms accounts index room place object n is there id =
    let here = place_of rooms index room place object n is there id in
    let found = at_found n (placed (the_world rooms accounts)) here.0 (record { room = index; object = object }) here.1 in
    (found.0, get-from_entries nat_cmp_total (placed (the_world rooms accounts)) n ∙ found.1)

-- ---- counts

count_entries : (p : ℕ × Placed → Bool) (q : Object → Bool) (base : ℕ) → ((object : Object) → p (entry_at base object) ≡ q object) → (objects : List Object) → count_by p (map (entry_at base) objects) ≡ count_by q objects
count_entries p q base same [] = refl
count_entries p q base same (object ∷ objects) =
    let rest : count_by p (map (entry_at base) objects) ≡ count_by q objects = count_entries p q base same objects in
    let first : cond {A = ℕ} (p (entry_at base object)) 1 0 ≡ cond {A = ℕ} (q object) 1 0 = ap (λ (b : Bool). cond {A = ℕ} b 1 0) (same object) in
    omega (arith, count_cons p (entry_at base object) (map (entry_at base) objects), count_cons q object objects)

-- what is counted among all entries is counted room by room
pub count_placed : (p : ℕ × Placed → Bool) (q : Object → Bool) → ((base : ℕ) (object : Object) → p (entry_at base object) ≡ q object) → (rooms : List RoomView) (base : ℕ)
    → count_by p (placed_from base (map viewed_room rooms)) ≡ sum_by (λ room. count_by q room.objects.now) rooms
count_placed p q same [] base = refl
count_placed p q same (room ∷ rooms) base =
    let rest : count_by p (placed_from (suc base) (map viewed_room rooms)) ≡ sum_by (λ room. count_by q room.objects.now) rooms = count_placed p q same rooms (suc base) in
    let first : count_by p (map (entry_at base) room.objects.now) ≡ count_by q room.objects.now = count_entries p q base (same base) room.objects.now in
    let joined : count_by p (map (entry_at base) room.objects.now ++ placed_from (suc base) (map viewed_room rooms)) ≡ count_by p (map (entry_at base) room.objects.now) + count_by p (placed_from (suc base) (map viewed_room rooms)) =
    sum_by-append (λ (e : ℕ × Placed). cond (p e) 1 0) (map (entry_at base) room.objects.now) (placed_from (suc base) (map viewed_room rooms)) in
    let sum : sum_by (λ (r : RoomView). count_by q r.objects.now) (room ∷ rooms) ≡ count_by q room.objects.now + sum_by (λ (r : RoomView). count_by q r.objects.now) rooms = sum_by-cons (λ (r : RoomView). count_by q r.objects.now) room rooms in
    joined ∙ (let both : count_by p (map (entry_at base) room.objects.now) + count_by p (placed_from (suc base) (map viewed_room rooms)) ≡ sum_by (λ (r : RoomView). count_by q r.objects.now) (room ∷ rooms) = omega arith in both)

pub length_placed : (rooms : List RoomView) (base : ℕ) → length (placed_from base (map viewed_room rooms)) ≡ sum_by (λ room. length room.objects.now) rooms
length_placed [] base = refl
length_placed (room ∷ rooms) base =
    let rest : length (placed_from (suc base) (map viewed_room rooms)) ≡ sum_by (λ (r : RoomView). length r.objects.now) rooms = length_placed rooms (suc base) in
    let sum : sum_by (λ (r : RoomView). length r.objects.now) (room ∷ rooms) ≡ length room.objects.now + sum_by (λ (r : RoomView). length r.objects.now) rooms = sum_by-cons (λ (r : RoomView). length r.objects.now) room rooms in
    let joined = length-append (map (entry_at base) room.objects.now) (placed_from (suc base) (map viewed_room rooms)) in
    let first = length-map room.objects.now (entry_at base) in
    joined ∙ (let both : length (map (entry_at base) room.objects.now) + length (placed_from (suc base) (map viewed_room rooms)) ≡ sum_by (λ (r : RoomView). length r.objects.now) (room ∷ rooms) = omega arith in both)

count_ids : (n : ℕ) (objects : List Object) → count_by (λ m. m == n) (map (λ object. object.id) objects) ≡ count_by (λ object. object.id == n) objects
count_ids n [] = refl
count_ids n (object ∷ objects) =
    let rest : count_by (λ m. m == n) (map (λ (o : Object). o.id) objects) ≡ count_by (λ (o : Object). o.id == n) objects = count_ids n objects in
    omega (arith, count_cons (λ (m : ℕ). m == n) object.id (map (λ (o : Object). o.id) objects), count_cons (λ (o : Object). o.id == n) object objects)

count_ids_in : (n : ℕ) (rooms : List RoomView) → count_by (λ m. m == n) (ids_in rooms) ≡ sum_by (λ room. count_by (λ object. object.id == n) room.objects.now) rooms
count_ids_in n [] = refl
count_ids_in n (room ∷ rooms) =
    let rest : count_by (λ m. m == n) (ids_in rooms) ≡ sum_by (λ (r : RoomView). count_by (λ object. object.id == n) r.objects.now) rooms = count_ids_in n rooms in
    let first : count_by (λ m. m == n) (map (λ (o : Object). o.id) room.objects.now) ≡ count_by (λ object. object.id == n) room.objects.now = count_ids n room.objects.now in
    let sum : sum_by (λ (r : RoomView). count_by (λ object. object.id == n) r.objects.now) (room ∷ rooms) ≡ count_by (λ object. object.id == n) room.objects.now + sum_by (λ (r : RoomView). count_by (λ object. object.id == n) r.objects.now) rooms = sum_by-cons (λ (r : RoomView). count_by (λ object. object.id == n) r.objects.now) room rooms in
    sum_by-append (λ (m : ℕ). cond (m == n) 1 0) (map (λ (o : Object). o.id) room.objects.now) (ids_in rooms)
    ∙ (let both : count_by (λ m. m == n) (map (λ (o : Object). o.id) room.objects.now) + count_by (λ m. m == n) (ids_in rooms) ≡ sum_by (λ (r : RoomView). count_by (λ object. object.id == n) r.objects.now) (room ∷ rooms) = omega arith in both)

-- an id is as often among the ids as among the entries
pub times_ids : (rooms : List RoomView) (n : ℕ) → count_by (λ m. m == n) (ids_in rooms) ≡ times n (placed_from 0 (map viewed_room rooms))
times_ids rooms n = count_ids_in n rooms ∙ sym (count_placed (λ e. e.0 == n) (λ object. object.id == n) (λ base object. refl) rooms 0)

count_owners : (n : ℕ) (objects : List Object) → count_by (λ owner. owner == n) (site_owners_of objects) ≡ count_by (λ object. is_site object.kind && (object.owner == n)) objects
count_owners n [] = refl
count_owners n (object ∷ objects) =
    let rest : count_by (λ owner. owner == n) (site_owners_of objects) ≡ count_by (λ (o : Object). is_site o.kind && (o.owner == n)) objects = count_owners n objects in
    let all = count_cons (λ (o : Object). is_site o.kind && (o.owner == n)) object objects in
    elim (is_site object.kind) as (λ b. is_site object.kind ≡ b → count_by (λ owner. owner == n) (map (λ (o : Object). o.owner) (cond b (object ∷ filter (λ (o : Object). is_site o.kind) objects) (filter (λ (o : Object). is_site o.kind) objects))) ≡ count_by (λ (o : Object). is_site o.kind && (o.owner == n)) (object ∷ objects)) [
      | true ↦ λ is.
          let first : cond {A = ℕ} (is_site object.kind && (object.owner == n)) 1 0 ≡ cond {A = ℕ} (object.owner == n) 1 0 = ap (λ (b : Bool). cond {A = ℕ} (b && (object.owner == n)) 1 0) is in
          count_cons (λ owner. owner == n) object.owner (site_owners_of objects) ∙ (let both : cond {A = ℕ} (object.owner == n) 1 0 + count_by (λ owner. owner == n) (site_owners_of objects) ≡ count_by (λ (o : Object). is_site o.kind && (o.owner == n)) (object ∷ objects) = omega arith in both)
      | false ↦ λ is. let first : cond {A = ℕ} (is_site object.kind && (object.owner == n)) 1 0 ≡ 0 = ap (λ (b : Bool). cond {A = ℕ} (b && (object.owner == n)) 1 0) is in (let both : count_by (λ owner. owner == n) (site_owners_of objects) ≡ count_by (λ (o : Object). is_site o.kind && (o.owner == n)) (object ∷ objects) = omega arith in both)
    ] refl

-- the sites of a player are counted among the owners of all
pub count_owners_in : (n : ℕ) (rooms : List RoomView) → count_by (λ owner. owner == n) (owners_in rooms) ≡ sum_by (λ room. count_by (λ object. is_site object.kind && (object.owner == n)) room.objects.now) rooms
count_owners_in n [] = refl
count_owners_in n (room ∷ rooms) =
    let rest : count_by (λ owner. owner == n) (owners_in rooms) ≡ sum_by (λ (r : RoomView). count_by (λ object. is_site object.kind && (object.owner == n)) r.objects.now) rooms = count_owners_in n rooms in
    let first : count_by (λ owner. owner == n) (site_owners_of room.objects.now) ≡ count_by (λ object. is_site object.kind && (object.owner == n)) room.objects.now = count_owners n room.objects.now in
    let sum : sum_by (λ (r : RoomView). count_by (λ object. is_site object.kind && (object.owner == n)) r.objects.now) (room ∷ rooms) ≡ count_by (λ object. is_site object.kind && (object.owner == n)) room.objects.now + sum_by (λ (r : RoomView). count_by (λ object. is_site object.kind && (object.owner == n)) r.objects.now) rooms = sum_by-cons (λ (r : RoomView). count_by (λ object. is_site object.kind && (object.owner == n)) r.objects.now) room rooms in
    sum_by-append (λ (owner : ℕ). cond (owner == n) 1 0) (site_owners_of room.objects.now) (owners_in rooms)
    ∙ (let both : count_by (λ owner. owner == n) (site_owners_of room.objects.now) + count_by (λ owner. owner == n) (owners_in rooms) ≡ sum_by (λ (r : RoomView). count_by (λ object. is_site object.kind && (object.owner == n)) r.objects.now) (room ∷ rooms) = omega arith in both)

-- ---- the objects of one room

one_sum : (f : RoomView → ℕ) (rooms : List RoomView) (i : ℕ) (room : RoomView) → slice_get rooms i ≡ Some room → f room ≤ sum_by f rooms
one_sum f [] i room is = absurd cc
one_sum f (first ∷ rooms) zero room is = let same : f first ≡ f room = ap f (same_Some first room is) in omega (arith, sum_by-cons f first rooms)
one_sum f (first ∷ rooms) (suc i) room is = let rest : f room ≤ sum_by f rooms = one_sum f rooms i room is in omega (arith, sum_by-cons f first rooms)

-- two objects of a room have two ids
pub ids_differ : (rooms : List RoomView) (accounts : List Account) → EachOnce rooms accounts → (index : ℕ) (room : RoomView) → slice_get rooms index ≡ Some room
    → (i j : ℕ) (one other : Object) → i < j → slice_get room.objects.now i ≡ Some one → slice_get room.objects.now j ≡ Some other → one.id ≡ other.id → ⊥
ids_differ rooms accounts once index room is i j one other less first second same =
    let two : 2 ≤ count_by (λ object. object.id == other.id) room.objects.now = count_two (λ object. object.id == other.id) room.objects.now i j one other less first second (eq-eqb one.id other.id same) (eq-eqb other.id other.id refl) in
    let all : count_by (λ object. object.id == other.id) room.objects.now ≤ sum_by (λ (r : RoomView). count_by (λ object. object.id == other.id) r.objects.now) rooms = one_sum (λ (r : RoomView). count_by (λ object. object.id == other.id) r.objects.now) rooms index room is in
    let few : times other.id (placed (the_world rooms accounts)) < 2 = once other.id in
    let many : times other.id (placed (the_world rooms accounts)) ≡ sum_by (λ (r : RoomView). count_by (λ object. object.id == other.id) r.objects.now) rooms = count_placed (λ e. e.0 == other.id) (λ object. object.id == other.id) (λ base object. refl) rooms 0 in
    omega arith

-- of two objects of a room the later one has the greater id
pub ids_rise : (rooms : List RoomView) (accounts : List Account) → EachOnce rooms accounts → (index : ℕ) (room : RoomView) → slice_get rooms index ≡ Some room → IsOrdered room
    → (i j : ℕ) (one other : Object) → i < j → slice_get room.objects.now i ≡ Some one → slice_get room.objects.now j ≡ Some other → one.id < other.id
ids_rise rooms accounts once index room is ordered i j one other less first second =
    let up : one.id ≤ other.id = ids_up room.objects.now ordered.order i j one other (omega arith) first second in
    let differ : one.id ≡ other.id → ⊥ = ids_differ rooms accounts once index room is i j one other less first second in
    omega arith

-- of two objects of a room that with the lesser id is the earlier one
pub places_rise : (room : RoomView) → IsOrdered room → (i j : ℕ) (one other : Object) → one.id < other.id → slice_get room.objects.now i ≡ Some one → slice_get room.objects.now j ≡ Some other → i < j
places_rise room ordered i j one other less first second =
    elim (cases_lt i j) [
      | inl before ↦ before
      | inr after ↦ (let up : other.id ≤ one.id = ids_up room.objects.now ordered.order j i other one after second first in absurd (omega arith))
    ]
