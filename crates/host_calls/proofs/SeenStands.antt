-- What a player sees under an id is what stands under it in the world, in its room.
use Rattle.std.proofs.Common.{◌≡◌, ◌≢◌, ℕ, suc, ℤ, pos, negsuc, ◌==◌, Bool, true, false, cond, if◌then◌else◌, List, [], ◌∷◌, map, Option, Some, None, option_map, option_and_then, refl, sym, ap, ◌∙◌}
use Rattle.std.specs.Prelude.{slice_get}
use Rattle.std.specs.List.{filter}
use Rattle.std.specs.Ordering.{nat_cmp}
use Rattle.std.specs.Cmp.{nat_cmp_total, unsigned_tied}
use Rattle.std.specs.FinMap.{find, get, values, entries, entries_sorted, get-entries, get-from_entries}
use Rattle.std.proofs.lemmas.Bool.{eq-eqb, eqb-true, ne_eqb}
use Rattle.object_store.specs.declared.account.Account.{Account}
use Rattle.room_table.specs.declared.object.Object.{Object}
use Rattle.object_store.specs.declared.world.Room.{Room}
use Rattle.object_store.specs.Stored.{Stored}
use Rattle.world_rules.specs.World.{Frame, Placed, World, listed_room, placed, listing_of, world_of}
use Rattle.world_rules.specs.RoomParts.{objects_in, part_at, part_of}
use Rattle.world_rules.specs.Checks.{standing_at}
use Rattle.world_rules.specs.Sound.{IsSound}
use Rattle.world_rules.proofs.Keys.{AreKeysOnce, keyed, once_of_sorted}
use Rattle.world_rules.proofs.Lifting.{found_in_table, frame_stored, stands_in_room}
use Rattle.world_rules.proofs.Parts.{get_objects_in, only}
use Rattle.world_rules.proofs.Same.{once}
use Rattle.visible_view.specs.Sights.{Sight, sees_room, sight_of}
use Rattle.visible_view.specs.Fields.{objects_at, place_of}
use Rattle.visible_view.proofs.Tables.{around_seen}
use Rattle.host_calls.specs.Replies.{id_of, objects_around, seen}

-- ---- lists of objects

abbrev seen_in : ℕ → List Placed → Option Placed
seen_in n list = option_and_then (slice_get list) (place_of n list)

past : (first : Placed) (list : List Placed) (place : Option ℕ) → option_and_then (slice_get (first ∷ list)) (option_map suc place) ≡ option_and_then (slice_get list) place
past first list None = refl
past first list (Some k) = refl

seen_first : (n : ℕ) (first : Placed) (list : List Placed) → seen_in n (first ∷ list) ≡ cond (first.object.id == n) (Some first) (seen_in n list)
seen_first n first list =
    elim (first.object.id == n) as (λ b. option_and_then (slice_get (first ∷ list)) (if b then Some 0 else option_map suc (place_of n list)) ≡ cond b (Some first) (seen_in n list)) [
      | true ↦ refl
      | false ↦ past first list (place_of n list)
    ]

-- Each entry has the id of its object.
abbrev HaveIds : List (ℕ × Placed) → Type 0
HaveIds es = (q : ℕ) (p : Placed) → find nat_cmp q es ≡ Some p → p.object.id ≡ q

module _ (e : ℕ × Placed) (es : List (ℕ × Placed)) where
  found_first : (q : ℕ) → q ≡ e.0 → find nat_cmp q (e ∷ es) ≡ Some e.1
  found_first q same = ap (λ (b : Bool). cond b (Some e.1) (find nat_cmp q es)) (unsigned_tied q e.0 ∙ eq-eqb q e.0 same)

  found_later : AreKeysOnce (e ∷ es) → (q : ℕ) (p : Placed) → find nat_cmp q es ≡ Some p → find nat_cmp q (e ∷ es) ≡ Some p
  found_later alone q p found =
      let other : q ≢ e.0 = λ same. (let none : find nat_cmp q es ≡ None = ap (λ (n : ℕ). find nat_cmp n es) same ∙ alone.0 in let clash : Some p ≡ None = sym found ∙ none in cc) in
      ap (λ (b : Bool). cond b (Some e.1) (find nat_cmp q es)) (unsigned_tied q e.0 ∙ ne_eqb q e.0 other) ∙ found

-- What is seen of some entries is found in all.
found_seen : (keep : ℕ × Placed → Bool) (es : List (ℕ × Placed)) → AreKeysOnce es → HaveIds es → (n : ℕ) (p : Placed)
    → seen_in n (map (λ (e : ℕ × Placed). e.1) (filter keep es)) ≡ Some p → find nat_cmp n es ≡ Some p
found_seen keep [] alone ids n p is = absurd cc
found_seen keep (e ∷ es) alone ids n p is =
    let rest : List Placed = map (λ (e : ℕ × Placed). e.1) (filter keep es) in
    let later : seen_in n rest ≡ Some p → find nat_cmp n (e ∷ es) ≡ Some p = λ more. found_later e es alone n p (found_seen keep es alone.1 (λ q o found. ids q o (found_later e es alone q o found)) n p more) in
    elim (keep e) as (λ b. seen_in n (map (λ (e : ℕ × Placed). e.1) (cond b (e ∷ filter keep es) (filter keep es))) ≡ Some p → find nat_cmp n (e ∷ es) ≡ Some p) [
      | true ↦ λ it. elim (e.1.object.id == n) as (λ b. (e.1.object.id == n) ≡ b → cond b (Some e.1) (seen_in n rest) ≡ Some p → find nat_cmp n (e ∷ es) ≡ Some p) [
        | true ↦ λ at this. found_first e es n (sym (eqb-true e.1.object.id n at) ∙ ids e.0 e.1 (found_first e es e.0 refl)) ∙ this
        | false ↦ λ at more. later more
      ] refl (sym (seen_first n e.1 rest) ∙ it)
      | false ↦ later
    ] is

-- What is seen of some entries is kept of them.
seen_kept : (keep : Placed → Bool) (es : List (ℕ × Placed)) (n : ℕ) (p : Placed) → seen_in n (map (λ (e : ℕ × Placed). e.1) (filter (λ (e : ℕ × Placed). keep e.1) es)) ≡ Some p → keep p ≡ true
seen_kept keep [] n p is = absurd cc
seen_kept keep (e ∷ es) n p is =
    let rest : List Placed = map (λ (f : ℕ × Placed). f.1) (filter (λ (f : ℕ × Placed). keep f.1) es) in
    elim (keep e.1) as (λ b. keep e.1 ≡ b → seen_in n (map (λ (f : ℕ × Placed). f.1) (cond b (e ∷ filter (λ (f : ℕ × Placed). keep f.1) es) (filter (λ (f : ℕ × Placed). keep f.1) es))) ≡ Some p → keep p ≡ true) [
      | true ↦ λ kept it. elim (e.1.object.id == n) as (λ b. cond b (Some e.1) (seen_in n rest) ≡ Some p → keep p ≡ true) [
        | true ↦ λ this. let same : e.1 ≡ p = cc in sym (ap keep same) ∙ kept
        | false ↦ λ more. seen_kept keep es n p more
      ] (sym (seen_first n e.1 rest) ∙ it)
      | false ↦ λ out more. seen_kept keep es n p more
    ] refl is

-- ---- a sound world

id_found : (q : ℕ) (objects : List Object) (object : Object) → find nat_cmp q (keyed (λ o. o.id) objects) ≡ Some object → object.id ≡ q
id_found q [] object found = absurd cc
id_found q (first ∷ objects) object found =
    elim (q == first.id) as (λ b. (q == first.id) ≡ b → cond b (Some first) (find nat_cmp q (keyed (λ o. o.id) objects)) ≡ Some object → object.id ≡ q) [
      | true ↦ λ at got. let same : first ≡ object = cc in sym (eqb-true q first.id at ∙ ap (λ (o : Object). o.id) same)
      | false ↦ λ at got. id_found q objects object got
    ] refl (sym (ap (λ (b : Bool). cond b (Some first) (find nat_cmp q (keyed (λ o. o.id) objects))) (unsigned_tied q first.id)) ∙ found)

id_in_room : (q : ℕ) (room : Option Room) (object : Object) → option_and_then (found_in_table q) room ≡ Some object → object.id ≡ q
id_in_room q None object found = absurd cc
id_in_room q (Some room) object found = id_found q room.table.objects object found

framed : (world : World) (index q : ℕ) (room : Option Room) (object : Object) → get world.rooms index ≡ option_map (λ (r : Room). (listed_room r).frame) room → option_and_then (found_in_table q) room ≡ Some object
    → (frame : Frame) × (get world.rooms index ≡ Some frame)
framed world index q None object is found = absurd cc
framed world index q (Some room) object is found = ((listed_room room).frame, is)

module _ (stored : Stored) (sound : IsSound stored) where
  abbrev world : World
  world = world_of stored

  listed : (q : ℕ) (p : Placed) → get world.objects q ≡ Some p → option_and_then (found_in_table q) (slice_get stored.rooms p.room) ≡ Some p.object
  listed q p stands = stands_in_room stored.rooms q p (once stored sound) (sym (get-from_entries nat_cmp_total (placed (listing_of stored)) q) ∙ stands)

  ids : HaveIds (entries world.objects)
  ids q p found = id_in_room q (slice_get stored.rooms p.room) p.object (listed q p (get-entries world.objects q ∙ found))

  -- What is seen stands there.
  pub seen_stands : (sight : Sight) (account : Account) → sight ≡ sight_of world account → (id : ℤ) (p : Placed) → seen sight id ≡ Some p → get world.objects (id_of id) ≡ Some p
  seen_stands sight account is (negsuc n) p found = absurd cc
  seen_stands sight account is (pos n) p found =
      get-entries world.objects n
      ∙ found_seen (λ entry. sees_room world account.player entry.1.room) (entries world.objects) (once_of_sorted _ (entries_sorted world.objects)) ids n p
      (sym (ap (λ (s : Sight). seen s (pos n)) is) ∙ found)

  -- The room of what is seen is seen.
  pub room_sees : (sight : Sight) (account : Account) → sight ≡ sight_of world account → (id : ℤ) (p : Placed) → seen sight id ≡ Some p → sees_room world account.player p.room ≡ true
  room_sees sight account is (negsuc n) p found = absurd cc
  room_sees sight account is (pos n) p found =
      seen_kept (λ (q : Placed). sees_room world account.player q.room) (entries world.objects) n p (sym (ap (λ (s : Sight). seen s (pos n)) is) ∙ found)

  -- What is seen around an object that is seen is what stands in its room.
  pub around_stands : (sight : Sight) (account : Account) → sight ≡ sight_of world account → (id : ℤ) (p : Placed) → seen sight id ≡ Some p → objects_around sight (seen sight id) ≡ values (objects_in world p.room)
  around_stands sight account is id p found =
      ap (objects_around sight) found
      ∙ ap (λ (s : Sight). objects_at s p.room) is
      ∙ around_seen world account p.room
      ∙ ap (λ (b : Bool). cond b (values (objects_in world p.room)) []) (room_sees sight account is id p found)

  -- The room of what stands is in the world.
  pub its_part : (q : ℕ) (p : Placed) → get world.objects q ≡ Some p → (frame : Frame) × (part_at world p.room ≡ Some (part_of world p.room frame))
  its_part q p stands =
      let found = framed world p.room q (slice_get stored.rooms p.room) p.object (frame_stored stored p.room) (listed q p stands) in
      (found.0, ap (option_map (part_of world p.room)) found.1)

  -- What stands in a room stands in its part.
  pub stands_in_part : (q : ℕ) (p : Placed) (room : ℕ) (frame : Frame) → get world.objects q ≡ Some p → p.room ≡ room → standing_at (part_of world room frame) q ≡ Some p
  stands_in_part q p room frame stands same =
      let place : Object → Placed = λ object. record { room = room; object = object } in
      ap (option_map place) (get_objects_in world room q ∙ ap (option_and_then (only room)) stands ∙ ap (λ (b : Bool). if b then Some p.object else None) (eq-eqb p.room room same))
      ∙ (λ i. Some (record { room = sym same i; object = p.object }))
