-- What stands in the rooms of a stored world, by room and id, is what stands in the world.
use Rattle.std.proofs.Common.{◌≡◌, ℕ, zero, suc, ◌+◌, ◌==◌, Bool, true, false, cond, List, [], ◌∷◌, map, Option, Some, None, refl, sym, ap, subst, ◌∙◌, option_map, option_and_then, arith, slice_get}
use Rattle.std.specs.Option.{option_or}
use Rattle.std.specs.Ordering.{nat_cmp}
use Rattle.std.specs.Cmp.{nat_cmp_total, unsigned_tied}
use Rattle.std.specs.FinMap.{find, get, get-from_entries}
use Rattle.std.proofs.lemmas.Bool.{eq-eqb, eqb-true, eqb-false, ne_eqb}
use Rattle.room_table.specs.declared.object.Object.{Object}
use Rattle.object_store.specs.declared.world.Room.{Room}
use Rattle.object_store.specs.Stored.{Stored}
use Rattle.room_table.specs.Tables.{find_object}
use Rattle.world_rules.specs.World.{Placed, placed_from, listed_room, world_of}
use Rattle.world_rules.proofs.Keys.{find_append}
use Rattle.world_rules.proofs.Rooms.{tagged}
use Rattle.exit_crossing.specs.Crossing.{AreIdsApart}

-- the object of an id in the room of an index
abbrev pub object_at : List Room → ℕ → ℕ → Option Object
object_at rooms index id = option_and_then (λ room. find_object id room.table.objects) (slice_get rooms index)

flipped : (m n : ℕ) → (m == n) ≡ (n == m)
flipped m n = elim (m == n) as (λ b. (m == n) ≡ b → b ≡ (n == m)) [
  | true ↦ λ is. sym (eq-eqb n m (sym (eqb-true m n is)))
  | false ↦ λ is. sym (ne_eqb n m (λ same. eqb-false m n is (sym same)))
] refl

abbrev put_in : ℕ → Option Object → Option Placed
put_in room found = option_map (λ object. record { room = room; object = object }) found

find_tagged : (q index : ℕ) (objects : List Object) → find nat_cmp q (map (tagged index) objects) ≡ put_in index (find_object q objects)
find_tagged q index [] = refl
find_tagged q index (object ∷ objects) =
    let rest = find_tagged q index objects in
    ap (λ (b : Bool). cond b (Some (tagged index object).1) (find nat_cmp q (map (tagged index) objects))) (unsigned_tied q object.id ∙ flipped q object.id)
    ∙ elim (object.id == q) as (λ b. cond b (Some (tagged index object).1) (find nat_cmp q (map (tagged index) objects)) ≡ put_in index (cond b (Some object) (find_object q objects))) [ true ↦ refl | false ↦ rest ]

found_in : (q index : ℕ) (room : Room) (rooms : List Room) → find nat_cmp q (placed_from index (map listed_room (room ∷ rooms))) ≡ option_or (put_in index (find_object q room.table.objects)) (find nat_cmp q (placed_from (suc index) (map listed_room rooms)))
found_in q index room rooms =
    find_append q (map (tagged index) room.table.objects) (placed_from (suc index) (map listed_room rooms))
    ∙ ap (λ found. option_or found (find nat_cmp q (placed_from (suc index) (map listed_room rooms)))) (find_tagged q index room.table.objects)

-- where it stands
record StandsFrom (index : ℕ) (rooms : List Room) (id : ℕ) (p : Placed) : Type 0 where
  pub place : ℕ
  pub at : p.room ≡ index + place
  pub there : object_at rooms place id ≡ Some p.object

stands_later : (index : ℕ) (first : Room) (rooms : List Room) (id : ℕ) (p : Placed) → StandsFrom (suc index) rooms id p → StandsFrom index (first ∷ rooms) id p
stands_later index first rooms id p stands = record { place = suc stands.place; at = omega (arith, stands.at); there = stands.there }

stands_from : (index : ℕ) (rooms : List Room) (id : ℕ) (p : Placed) → find nat_cmp id (placed_from index (map listed_room rooms)) ≡ Some p → StandsFrom index rooms id p
stands_from index [] id p is = absurd cc
stands_from index (room ∷ rooms) id p is =
    elim (find_object id room.table.objects) as (λ found. find_object id room.table.objects ≡ found → option_or (put_in index found) (find nat_cmp id (placed_from (suc index) (map listed_room rooms))) ≡ Some p → StandsFrom index (room ∷ rooms) id p) [
      | None ↦ λ none later. stands_later index room rooms id p (stands_from (suc index) rooms id p later)
      | Some object ↦ λ some here.
          let same : ◌≡◌ {A = Placed} (record { room = index; object = object }) p = cc in
          record { place = 0; at = ap (λ (q : Placed). q.room) (sym same) ∙ omega arith; there = some ∙ ap (λ (q : Placed). Some q.object) same }
    ] refl (sym (found_in id index room rooms) ∙ is)

none_from : (index : ℕ) (rooms : List Room) (id : ℕ) → find nat_cmp id (placed_from index (map listed_room rooms)) ≡ None → (k : ℕ) → object_at rooms k id ≡ None
none_from index [] id is k = refl
none_from index (room ∷ rooms) id is k =
    elim (find_object id room.table.objects) as (λ found. find_object id room.table.objects ≡ found → option_or (put_in index found) (find nat_cmp id (placed_from (suc index) (map listed_room rooms))) ≡ None → object_at (room ∷ rooms) k id ≡ None) [
      | None ↦ λ none later. nowhere k none (none_from (suc index) rooms id later)
      | Some object ↦ λ some here. absurd cc
    ] refl (sym (found_in id index room rooms) ∙ is)
  where
    nowhere : (k : ℕ) → find_object id room.table.objects ≡ None → ((j : ℕ) → object_at rooms j id ≡ None) → object_at (room ∷ rooms) k id ≡ None
    nowhere zero here later = here
    nowhere (suc k) here later = later k

module _ (stored : Stored) where
  getting : (id : ℕ) → get (world_of stored).objects id ≡ find nat_cmp id (placed_from 0 (map listed_room stored.rooms))
  getting id = get-from_entries nat_cmp_total (placed_from 0 (map listed_room stored.rooms)) id

  -- what is in the world stands in its room
  pub stands : (id : ℕ) (p : Placed) → get (world_of stored).objects id ≡ Some p → object_at stored.rooms p.room id ≡ Some p.object
  stands id p is =
      let from = stands_from 0 stored.rooms id p (sym (getting id) ∙ is) in
      subst (λ (k : ℕ). object_at stored.rooms k id ≡ Some p.object) (omega (arith, from.at)) from.there

  -- what isn't in the world stands in no room
  pub stands_nowhere : (id : ℕ) → get (world_of stored).objects id ≡ None → (k : ℕ) → object_at stored.rooms k id ≡ None
  stands_nowhere id is k = none_from 0 stored.rooms id (sym (getting id) ∙ is) k

  pub room_of : (k id : ℕ) (object : Object) (found : Option Room) → slice_get stored.rooms k ≡ found → option_and_then (λ room. find_object id room.table.objects) found ≡ Some object → (room : Room) × (slice_get stored.rooms k ≡ Some room) × (find_object id room.table.objects ≡ Some object)
  room_of k id object None at is = absurd cc
  room_of k id object (Some room) at is = (room, at, is)

  -- where no id stands in two rooms, it stands in one
  pub one_room : AreIdsApart stored.rooms → (id k j : ℕ) (one other : Object) → object_at stored.rooms k id ≡ Some one → object_at stored.rooms j id ≡ Some other → k ≡ j
  one_room ids id k j one other here there =
      let first = room_of k id one (slice_get stored.rooms k) refl here in
      let second = room_of j id other (slice_get stored.rooms j) refl there in
      ids k j id first.0 second.0 first.1 second.1 (one, first.2) (other, second.2)

  -- what stands in a room is in the world
  pub is_placed : AreIdsApart stored.rooms → (id k : ℕ) (object : Object) → object_at stored.rooms k id ≡ Some object → get (world_of stored).objects id ≡ Some (record { room = k; object = object })
  is_placed ids id k object is = elim (get (world_of stored).objects id) as (λ found. get (world_of stored).objects id ≡ found → found ≡ Some (record { room = k; object = object })) [
    | None ↦ λ none. let nothing = stands_nowhere id none k in absurd (both nothing is)
    | Some p ↦ λ some.
        let there = stands id p some in
        let room : p.room ≡ k = one_room ids id p.room k p.object object there is in
        let same : Some p.object ≡ Some object = sym there ∙ ap (λ (n : ℕ). object_at stored.rooms n id) room ∙ is in
        let one : p.object ≡ object = cc in
        λ i. Some (record { room = room i; object = one i })
  ] refl
    where
      both : object_at stored.rooms k id ≡ None → object_at stored.rooms k id ≡ Some object → ⊥
      both none some = let apart : None ≡ Some object = sym none ∙ some in cc
