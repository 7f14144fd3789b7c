-- A change of each object by itself, in a stored room.
use Rattle.std.proofs.Common.{◌≡◌, ℕ, ◌+◌, ◌<◌, ◌≤◌, ◌==◌, Bool, true, false, cond, List, [], ◌∷◌, map, Option, Some, None, option_map, option_and_then, refl, sym, ap, subst, ◌∙◌, arith}
use Rattle.std.specs.List.{AllByRecursion, cons_option, filter_map}
use Rattle.std.specs.Ordering.{nat_cmp}
use Rattle.std.specs.Cmp.{nat_cmp_total, unsigned_tied}
use Rattle.std.specs.FinMap.{find, get, insert, entries, entries_sorted, get-entries, get-insert, get-remove, from_entries, get-from_entries, same_map, nat_cmp-IsAntisymmetric}
use Rattle.std.proofs.lemmas.Bool.{eqb-true}
use Rattle.std.proofs.lemmas.List.Sums.{sum_by-cons}
use Rattle.room_table.specs.declared.object.Object.{Object}
use Rattle.object_store.specs.declared.world.Room.{Room}
use Rattle.room_table.specs.Tables.{Table, IsRising}
use Rattle.world_rules.specs.RoomParts.{RoomPart}
use Rattle.world_rules.specs.Changes.{put}
use Rattle.world_rules.specs.Steps.{by_object, over_ids, with_left, each}
use Rattle.world_rules.proofs.Keys.{AreKeysOnce, keyed, table_sorted, entries_of_sorted, once_of_sorted, left_of, find_left}
use Rattle.world_rules.proofs.Lifting.{times_in, found_in_table, stored_part, with_table, SaysSame}

-- the entries whose objects a change leaves, as it leaves them
abbrev pub kept : (Object → Option Object) → List (ℕ × Object) → List (ℕ × Object)
kept change es = filter_map (λ entry. option_map (λ object. (entry.0, object)) (change entry.1)) es

-- a part in which each object changes by itself, or goes, all at once
abbrev pub each_at_once : (Object → Option Object) → RoomPart → RoomPart
each_at_once change part = record part { objects = from_entries (kept change (entries part.objects)) }

-- The change keeps ids.
abbrev pub KeepsIds : (Object → Option Object) → Type 0
KeepsIds change = (object after : Object) → change object ≡ Some after → after.id ≡ object.id

abbrev id_of : Object → ℕ
id_of object = object.id

-- the table with the objects that a change leaves
abbrev pub each_in_table : (Object → Option Object) → Table → Table
each_in_table change table = record table { objects = filter_map change table.objects }

times_head : (id : ℕ) (object : Object) (objects : List Object) → times_in id (object ∷ objects) ≡ cond (object.id == id) 1 0 + times_in id objects
times_head id object objects = sum_by-cons (λ (o : Object). cond (o.id == id) 1 0) object objects

times_left : (id : ℕ) (object : Object) (left : Option Object) (rest objects : List Object) → ((after : Object) → left ≡ Some after → after.id ≡ object.id) → times_in id rest ≤ times_in id objects
    → times_in id (cons_option left rest) ≤ times_in id (object ∷ objects)
times_left id object None rest objects same fewer = omega (arith, times_head id object objects)
times_left id object (Some after) rest objects same fewer =
    let test = ap (λ (n : ℕ). cond {A = ℕ} (n == id) 1 0) (same after refl) in
    omega (arith, test, times_head id object objects, times_head id after rest)

module _ (change : Object → Option Object) (keeps : KeepsIds change) where
  keyed_left : (objects : List Object) → keyed id_of (filter_map change objects) ≡ filter_map (left_of change) (keyed id_of objects)
  keyed_left [] = refl
  keyed_left (object ∷ objects) =
      let rest = keyed_left objects in
      elim (change object) as (λ r. change object ≡ r → keyed id_of (cons_option r (filter_map change objects)) ≡ cons_option (option_map (λ o. (object.id, o)) r) (filter_map (left_of change) (keyed id_of objects))) [
        | None ↦ λ e. rest
        | Some after ↦ λ e. λ i. (keeps object after e i, after) ∷ rest i
      ] refl

  above : (n : ℕ) (objects : List Object) → AllByRecursion (λ later. n < later.id) objects → AllByRecursion (λ later. n < later.id) (filter_map change objects)
  above n [] h = tt
  above n (object ∷ objects) h =
      let rest = above n objects h.1 in
      elim (change object) as (λ r. change object ≡ r → AllByRecursion (λ later. n < later.id) (cons_option r (filter_map change objects))) [
        | None ↦ λ e. rest
        | Some after ↦ λ e. let id = keeps object after e in let here : n < object.id = h.0 in let now : n < after.id = omega arith in (now, rest)
      ] refl

  pub IsRising-filter_map : (objects : List Object) → IsRising objects → IsRising (filter_map change objects)
  IsRising-filter_map [] h = tt
  IsRising-filter_map (object ∷ objects) h =
      let rest = IsRising-filter_map objects h.1 in
      elim (change object) as (λ r. change object ≡ r → IsRising (cons_option r (filter_map change objects))) [
        | None ↦ λ e. rest
        | Some after ↦ λ e. let id = keeps object after e in (rw id (above object.id objects h.0), rest)
      ] refl

  pub times_in-filter_map : (id : ℕ) (objects : List Object) → times_in id (filter_map change objects) ≤ times_in id objects
  times_in-filter_map id [] = omega arith
  times_in-filter_map id (object ∷ objects) = times_left id object (change object) (filter_map change objects) objects (keeps object) (times_in-filter_map id objects)

  -- what is found in such a table was found, and the change left it
  pub found_left : (id : ℕ) (room : Room) → IsRising room.table.objects → found_in_table id (with_table (each_in_table change) room) ≡ option_and_then change (found_in_table id room)
  found_left id room rise =
      ap (find nat_cmp id) (keyed_left room.table.objects)
      ∙ find_left change id (keyed id_of room.table.objects) (once_of_sorted _ (table_sorted room.table.objects rise))

  -- ---- one after the other is all at once

  -- each object stands under its id
  abbrev AreKeyed : RoomPart → Type 0
  AreKeyed part = (id : ℕ) (object : Object) → get part.objects id ≡ Some object → object.id ≡ id

  abbrev after_one : RoomPart → ℕ → RoomPart
  after_one part id = by_object (λ object one. with_left object.id one (change object)) part (get part.objects id)

  put_is : (object : Object) (part : RoomPart) (found : Option Object) (old : Object) → found ≡ Some old → put object part found ≡ record part { objects = insert part.objects object.id object }
  put_is object part None old is = absurd cc
  put_is object part (Some other) old is = refl

  left_get : (part : RoomPart) (id : ℕ) (object : Object) → get part.objects id ≡ Some object → object.id ≡ id → (left : Option Object) → ((after : Object) → left ≡ Some after → after.id ≡ object.id) → (q : ℕ)
      → get (with_left object.id part left).objects q ≡ cond (q == id) left (get part.objects q)
  left_get part id object is at None same q = get-remove nat_cmp_total part.objects object.id q ∙ ap (λ (b : Bool). cond b None (get part.objects q)) (unsigned_tied q object.id ∙ ap (λ n. q == n) at)
  left_get part id object is at (Some after) same q =
      let here : after.id ≡ id = same after refl ∙ at in
      ap (λ (p : RoomPart). get p.objects q) (put_is after part (get part.objects after.id) object (ap (get part.objects) here ∙ is))
      ∙ get-insert nat_cmp_total part.objects after.id after q
      ∙ ap (λ (b : Bool). cond b (Some after) (get part.objects q)) (unsigned_tied q after.id ∙ ap (λ n. q == n) here)

  found_get : (part : RoomPart) → AreKeyed part → (id : ℕ) (found : Option Object) → get part.objects id ≡ found → (q : ℕ)
      → get (by_object (λ object one. with_left object.id one (change object)) part found).objects q ≡ cond (q == id) (option_and_then change found) (get part.objects q)
  found_get part keyed_by id None is q =
      elim (q == id) as (λ b. (q == id) ≡ b → get part.objects q ≡ cond b None (get part.objects q)) [ true ↦ λ at. ap (get part.objects) (eqb-true q id at) ∙ is | false ↦ λ at. refl ] refl
  found_get part keyed_by id (Some object) is q = left_get part id object is (keyed_by id object is) (change object) (λ after left. keeps object after left) q

  one_get : (part : RoomPart) → AreKeyed part → (id q : ℕ) → get (after_one part id).objects q ≡ cond (q == id) (option_and_then change (get part.objects id)) (get part.objects q)
  one_get part keyed_by id q = found_get part keyed_by id (get part.objects id) refl q

  left_keyed : (part : RoomPart) → AreKeyed part → (id q : ℕ) (after : Object) (found : Option Object) → get part.objects id ≡ found → q ≡ id → option_and_then change found ≡ Some after → after.id ≡ q
  left_keyed part keyed_by id q after None is at left = absurd cc
  left_keyed part keyed_by id q after (Some object) is at left = keeps object after left ∙ keyed_by id object is ∙ sym at

  one_keyed : (part : RoomPart) → AreKeyed part → (id : ℕ) → AreKeyed (after_one part id)
  one_keyed part keyed_by id q object found =
      elim (q == id) as (λ b. (q == id) ≡ b → cond b (option_and_then change (get part.objects id)) (get part.objects q) ≡ Some object → object.id ≡ q) [
        | true ↦ λ at got. left_keyed part keyed_by id q object (get part.objects id) refl (eqb-true q id at) got
        | false ↦ λ at got. keyed_by q object got
      ] refl (sym (one_get part keyed_by id q) ∙ found)

  abbrev picked : Option Object → Option Object → Option Object
  picked None found = found
  picked (Some object) found = option_and_then change found

  over_get : (es : List (ℕ × Object)) → AreKeysOnce es → (part : RoomPart) → AreKeyed part → (q : ℕ)
      → get (over_ids (λ object one. with_left object.id one (change object)) (map (λ (e : ℕ × Object). e.0) es) part).objects q ≡ picked (find nat_cmp q es) (get part.objects q)
  over_get [] once part keyed_by q = refl
  over_get (e ∷ es) once part keyed_by q =
      over_get es once.1 (after_one part e.0) (one_keyed part keyed_by e.0) q
      ∙ ap (picked (find nat_cmp q es)) (one_get part keyed_by e.0 q)
      ∙ elim (q == e.0) as (λ b. (q == e.0) ≡ b → picked (find nat_cmp q es) (cond b (option_and_then change (get part.objects e.0)) (get part.objects q)) ≡ picked (cond b (Some e.1) (find nat_cmp q es)) (get part.objects q)) [
        | true ↦ λ at.
            let same : q ≡ e.0 = eqb-true q e.0 at in
            let none : find nat_cmp q es ≡ None = subst (λ (n : ℕ). find nat_cmp n es ≡ None) (sym same) once.0 in
            ap (λ found. picked found (option_and_then change (get part.objects e.0))) none ∙ ap (λ n. option_and_then change (get part.objects n)) (sym same)
        | false ↦ λ at. refl
      ] refl
      ∙ ap (λ (b : Bool). picked (cond b (Some e.1) (find nat_cmp q es)) (get part.objects q)) (sym (unsigned_tied q e.0))

  picked_same : (found : Option Object) → picked found found ≡ option_and_then change found
  picked_same None = refl
  picked_same (Some object) = refl

  record IsSamePlace (part after : RoomPart) : Type 0 where
    rules : after.rules ≡ part.rules
    index : after.index ≡ part.index
    grounds : after.grounds ≡ part.grounds
    next : after.next ≡ part.next

  put_place : (object : Object) (part : RoomPart) (found : Option Object) → IsSamePlace part (put object part found)
  put_place object part None = record { rules = refl; index = refl; grounds = refl; next = refl }
  put_place object part (Some old) = record { rules = refl; index = refl; grounds = refl; next = refl }

  left_place : (id : ℕ) (part : RoomPart) (left : Option Object) → IsSamePlace part (with_left id part left)
  left_place id part None = record { rules = refl; index = refl; grounds = refl; next = refl }
  left_place id part (Some object) = put_place object part (get part.objects object.id)

  by_place : (part : RoomPart) (found : Option Object) → IsSamePlace part (by_object (λ object one. with_left object.id one (change object)) part found)
  by_place part None = record { rules = refl; index = refl; grounds = refl; next = refl }
  by_place part (Some object) = left_place object.id part (change object)

  over_place : (ids : List ℕ) (part : RoomPart) → IsSamePlace part (over_ids (λ object one. with_left object.id one (change object)) ids part)
  over_place [] part = record { rules = refl; index = refl; grounds = refl; next = refl }
  over_place (id ∷ ids) part =
      let first = by_place part (get part.objects id) in
      let rest = over_place ids (after_one part id) in
      record { rules = rest.rules ∙ first.rules; index = rest.index ∙ first.index; grounds = rest.grounds ∙ first.grounds; next = rest.next ∙ first.next }

  -- A step in which each object changes by itself in its turn is the same as all at once.
  pub each_is_at_once : (part : RoomPart) → AreKeyed part → each change part ≡ each_at_once change part
  each_is_at_once part keyed_by =
      let place = over_place (map (λ (e : ℕ × Object). e.0) (entries part.objects)) part in
      let objects = same_map nat_cmp_total nat_cmp-IsAntisymmetric (each change part).objects (each_at_once change part).objects (λ q.
      over_get (entries part.objects) (once_of_sorted _ (entries_sorted part.objects)) part keyed_by q
      ∙ ap (λ found. picked found (get part.objects q)) (sym (get-entries part.objects q))
      ∙ picked_same (get part.objects q)
      ∙ sym (get-from_entries nat_cmp_total (kept change (entries part.objects)) q ∙ find_left change q (entries part.objects) (once_of_sorted _ (entries_sorted part.objects)) ∙ ap (option_and_then change) (sym (get-entries part.objects q)))) in
      λ i. record { rules = place.rules i; index = place.index i; grounds = place.grounds i; next = place.next i; objects = objects i }

  find_keyed : (objects : List Object) (id : ℕ) (object : Object) → find nat_cmp id (keyed (λ o. o.id) objects) ≡ Some object → object.id ≡ id
  find_keyed [] id object found = absurd cc
  find_keyed (first ∷ objects) id object found =
      elim (id == first.id) as (λ b. (id == first.id) ≡ b → cond b (Some first) (find nat_cmp id (keyed (λ o. o.id) objects)) ≡ Some object → object.id ≡ id) [
        | true ↦ λ at got. let same : first ≡ object = cc in sym (eqb-true id first.id at ∙ ap (λ (o : Object). o.id) same)
        | false ↦ λ at got. find_keyed objects id object got
      ] refl (sym (ap (λ (b : Bool). cond b (Some first) (find nat_cmp id (keyed (λ o. o.id) objects))) (unsigned_tied id first.id)) ∙ found)

  stored_keyed : (index : ℕ) (room : Room) → AreKeyed (stored_part index room)
  stored_keyed index room id object found = find_keyed room.table.objects id object (sym (get-from_entries nat_cmp_total (keyed (λ (o : Object). o.id) room.table.objects) id) ∙ found)

  -- The change of each object of a room's part is that of each object of its table.
  pub each-stored : (index : ℕ) (room : Room) → IsRising room.table.objects → SaysSame (each change) (each_in_table change) index room
  each-stored index room rise =
      let holding : List (ℕ × Object) → RoomPart = λ es. record (stored_part index room) { objects = from_entries es } in
      record {
        part = each_is_at_once (stored_part index room) (stored_keyed index room) ∙ ap (λ es. holding (kept change es)) (entries_of_sorted (keyed id_of room.table.objects) (table_sorted room.table.objects rise)) ∙ ap holding (sym (keyed_left room.table.objects));
        ids = λ id. times_in-filter_map id room.table.objects;
      }
