-- What is seen of a room is what stands there, and that is its table.
use Rattle.std.proofs.Common.{◌≡◌, ℕ, ◌+◌, ◌==◌, ◌&&◌, ◌||◌, Bool, true, false, cond, if◌then◌else◌, T, List, [], ◌∷◌, map, Option, Some, None, option_and_then, refl, sym, ap, ◌∙◌, inl, inr, arith}
use Rattle.std.specs.Prelude.{slice_get}
use Rattle.std.specs.List.{cons_option, filter, filter_map, list_any}
use Rattle.std.specs.Option.{unwrap_or}
use Rattle.std.specs.Ordering.{nat_cmp}
use Rattle.std.specs.Cmp.{nat_cmp_total}
use Rattle.std.specs.FinMap.{find, values, entries, entries_sorted, get-from_entries, is_sorted, nat_cmp-IsAntisymmetric}
use Rattle.std.specs.FinMap.Entries.{below_all, same_entries}
use Rattle.std.proofs.lemmas.Bool.{cases_eq, eq-eqb, ne_eqb}
use Rattle.object_store.specs.declared.account.Account.{Account}
use Rattle.room_table.specs.declared.object.Object.{Object}
use Rattle.room_table.specs.declared.standing.Standing.{Standing}
use Rattle.object_store.specs.declared.world.Room.{Room}
use Rattle.object_store.specs.Stored.{Stored}
use Rattle.world_rules.specs.Sights.{gives_sight, is_visible}
use Rattle.world_rules.specs.World.{Frame, Placed, World, shown, placed, listing_of, world_of}
use Rattle.world_rules.specs.RoomParts.{objects_in, part_of, standing_in}
use Rattle.world_rules.specs.Sound.{IsSound}
use Rattle.world_rules.proofs.Entries.{Entries}
use Rattle.world_rules.proofs.Keys.{keyed, joined, entries_of_sorted, table_sorted, values_of}
use Rattle.world_rules.proofs.Lifting.{found_in_room, found_in_table}
use Rattle.world_rules.proofs.Parts.{get_objects_in, only}
use Rattle.world_rules.proofs.Same.{once, tables_at}
use Rattle.world_roster.specs.Rosters.{shown_entry}
use Rattle.visible_view.specs.Sights.{sees_room, sight_of}
use Rattle.visible_view.specs.Fields.{objects_at}
use Rattle.visible_view.specs.inner.Gathered.{is_flagged, is_seen, kept_objects, objects_if_seen, HaveTables}
use Rattle.visible_view.specs.declared.gather.RoomInView.{RoomInView}
use Rattle.visible_view.proofs.Seen.{both, objects_seen, told}

-- the entries of the objects that stand in a room
abbrev pub standing : ℕ → Entries → List (ℕ × Object)
standing room es = filter_map (standing_in room) es

abbrev second : List (ℕ × Object) → List Object
second es = map (λ (e : ℕ × Object). e.1) es

-- the objects of some that stand in a room
abbrev placed_at : ℕ → List Placed → List Object
placed_at room ps = map (λ (p : Placed). p.object) (filter (λ (p : Placed). p.room == room) ps)

-- ---- of those that are seen, the ones of a room

module _ (sees : ℕ → Bool) (room : ℕ) where
  abbrev seen_of : Entries → Entries
  seen_of es = filter (λ (e : ℕ × Placed). sees e.1.room) es

  abbrev shown_of : Entries → List Object
  shown_of es = placed_at room (map (λ (e : ℕ × Placed). e.1) es)

  module _ (e : ℕ × Placed) (es : Entries) where
    shown_first : (b : Bool) → (e.1.room == room) ≡ b → shown_of (e ∷ es) ≡ cond b (e.1.object ∷ shown_of es) (shown_of es)
    shown_first b is =
        elim (e.1.room == room) as (λ c. map (λ (p : Placed). p.object) (cond c (e.1 ∷ filter (λ (p : Placed). p.room == room) (map (λ (f : ℕ × Placed). f.1) es)) (filter (λ (p : Placed). p.room == room) (map (λ (f : ℕ × Placed). f.1) es))) ≡ cond c (e.1.object ∷ shown_of es) (shown_of es)) [ true ↦ refl | false ↦ refl ]
        ∙ ap (λ (c : Bool). cond c (e.1.object ∷ shown_of es) (shown_of es)) is

    stands_first : (b : Bool) → (e.1.room == room) ≡ b → second (standing room (e ∷ es)) ≡ cond b (e.1.object ∷ second (standing room es)) (second (standing room es))
    stands_first b is =
        ap (λ (c : Bool). second (cons_option (if c then Some (e.0, e.1.object) else None) (standing room es))) is
        ∙ elim b as (λ c. second (cons_option (if c then Some (e.0, e.1.object) else None) (standing room es)) ≡ cond c (e.1.object ∷ second (standing room es)) (second (standing room es))) [ true ↦ refl | false ↦ refl ]

  abbrev IsShown : Entries → Type 0
  IsShown es = shown_of (seen_of es) ≡ cond (sees room) (second (standing room es)) []

  shown_here : (e : ℕ × Placed) (es : Entries) → e.1.room ≡ room → IsShown es → IsShown (e ∷ es)
  shown_here e es same rest =
      let at = eq-eqb e.1.room room same in
      ap (λ (n : ℕ). shown_of (cond (sees n) (e ∷ seen_of es) (seen_of es))) same
      ∙ elim (sees room) as (λ b. shown_of (seen_of es) ≡ cond b (second (standing room es)) [] → shown_of (cond b (e ∷ seen_of es) (seen_of es)) ≡ cond b (second (standing room (e ∷ es))) []) [
        | true ↦ λ before. shown_first e (seen_of es) true at ∙ ap (λ (more : List Object). e.1.object ∷ more) before ∙ sym (stands_first e es true at)
        | false ↦ λ before. before
      ] rest

  shown_there : (e : ℕ × Placed) (es : Entries) → (e.1.room ≡ room → ⊥) → IsShown es → IsShown (e ∷ es)
  shown_there e es apart rest =
      let at = ne_eqb e.1.room room apart in
      elim (sees e.1.room) as (λ b. shown_of (cond b (e ∷ seen_of es) (seen_of es)) ≡ shown_of (seen_of es)) [
        | true ↦ shown_first e (seen_of es) false at
        | false ↦ refl
      ]
      ∙ rest ∙ ap (λ (more : List Object). cond (sees room) more []) (sym (stands_first e es false at))

  shown_all : (es : Entries) → IsShown es
  shown_all [] = elim (sees room) as (λ b. ◌≡◌ {A = List Object} [] (cond b [] [])) [ true ↦ refl | false ↦ refl ]
  shown_all (e ∷ es) =
      elim (cases_eq e.1.room room) [
        | inl same ↦ shown_here e es same (shown_all es)
        | inr apart ↦ shown_there e es apart (shown_all es)
      ]

-- ---- what stands in a room, by rising id

below_standing : (n room : ℕ) (es : Entries) → T (below_all nat_cmp n es) → T (below_all nat_cmp n (standing room es))
below_standing n room [] below = tt
below_standing n room (e ∷ es) below =
    let parts = both _ _ below in
    let rest = below_standing n room es parts.1 in
    elim (e.1.room == room) as (λ b. T (below_all nat_cmp n (cons_option (if b then Some (e.0, e.1.object) else None) (standing room es)))) [ true ↦ joined _ _ parts.0 rest | false ↦ rest ]

sorted_standing : (room : ℕ) (es : Entries) → T (is_sorted nat_cmp es) → T (is_sorted nat_cmp (standing room es))
sorted_standing room [] sorted = tt
sorted_standing room (e ∷ es) sorted =
    let parts = both _ _ sorted in
    let rest = sorted_standing room es parts.1 in
    elim (e.1.room == room) as (λ b. T (is_sorted nat_cmp (cons_option (if b then Some (e.0, e.1.object) else None) (standing room es)))) [ true ↦ joined _ _ (below_standing e.0 room es parts.0) rest | false ↦ rest ]

sorted_there : (world : World) (room : ℕ) → T (is_sorted nat_cmp (standing room (entries world.objects)))
sorted_there world room = sorted_standing room (entries world.objects) (entries_sorted world.objects)

-- What a player sees of a room is what stands there, where he sees it.
pub around_seen : (world : World) (account : Account) (room : ℕ) → objects_at (sight_of world account) room ≡ cond (sees_room world account.player room) (values (objects_in world room)) []
around_seen world account room =
    shown_all (sees_room world account.player) room (entries world.objects)
    ∙ ap (λ (es : List (ℕ × Object)). cond (sees_room world account.player room) (second es) []) (sym (entries_of_sorted (standing room (entries world.objects)) (sorted_there world room)))

-- A room that a player sees is visible by its part.
any_standing : (player room : ℕ) (es : Entries) → list_any (gives_sight player) (second (standing room es)) ≡ list_any (λ (e : ℕ × Placed). (e.1.room == room) && gives_sight player e.1.object) es
any_standing player room [] = refl
any_standing player room (e ∷ es) =
    let later : Entries → Bool = list_any (λ (f : ℕ × Placed). (f.1.room == room) && gives_sight player f.1.object) in
    elim (e.1.room == room) as (λ b. list_any (gives_sight player) (second (cons_option (if b then Some (e.0, e.1.object) else None) (standing room es))) ≡ ((b && gives_sight player e.1.object) || later es)) [
      | true ↦ ap (λ (b : Bool). gives_sight player e.1.object || b) (any_standing player room es)
      | false ↦ any_standing player room es
    ]

pub seen_part : (world : World) (player room : ℕ) (frame : Frame) → sees_room world player room ≡ is_visible player (part_of world room frame)
seen_part world player room frame =
    sym (any_standing player room (entries world.objects))
    ∙ ap (λ (es : List (ℕ × Object)). list_any (gives_sight player) (second es)) (sym (entries_of_sorted (standing room (entries world.objects)) (sorted_there world room)))

-- ---- a sound world

abbrev table_of : Option Room → List Object
table_of None = []
table_of (Some room) = room.table.objects

abbrev id_of : Object → ℕ
id_of object = object.id

module _ (stored : Stored) (sound : IsSound stored) where
  abbrev world : World
  world = world_of stored

  found_there : (k q : ℕ) → find nat_cmp q (standing k (entries world.objects)) ≡ option_and_then (found_in_table q) (slice_get stored.rooms k)
  found_there k q =
      sym (get-from_entries nat_cmp_total (standing k (entries world.objects)) q)
      ∙ get_objects_in world k q
      ∙ ap (option_and_then (only k)) (get-from_entries nat_cmp_total (placed (listing_of stored)) q)
      ∙ sym (found_in_room stored.rooms k q (once stored sound))

  table_stands : (k : ℕ) (found : Option Room) → slice_get stored.rooms k ≡ found → standing k (entries world.objects) ≡ keyed id_of (table_of found)
  table_stands k None is =
      same_entries nat_cmp nat_cmp_total nat_cmp-IsAntisymmetric (standing k (entries world.objects)) [] (sorted_there world k) tt (λ q. found_there k q ∙ ap (option_and_then (found_in_table q)) is)
  table_stands k (Some room) is =
      same_entries nat_cmp nat_cmp_total nat_cmp-IsAntisymmetric (standing k (entries world.objects)) (keyed id_of room.table.objects) (sorted_there world k) (table_sorted room.table.objects (tables_at stored.rooms k room sound.tables is)) (λ q. found_there k q ∙ ap (option_and_then (found_in_table q)) is)

  -- What stands in a room are the objects of its table.
  table_objects : (k : ℕ) (found : Option Room) → slice_get stored.rooms k ≡ found → second (standing k (entries world.objects)) ≡ table_of found
  table_objects k found is = ap second (table_stands k found is) ∙ values_of id_of (table_of found)

  module _ (player : ℕ) where
    tables_as : (k : ℕ) (found : Option Room) → slice_get stored.rooms k ≡ found → cond (sees_room world player k) (second (standing k (entries world.objects))) [] ≡ unwrap_or (option_and_then (objects_if_seen player) found) []
    tables_as k None is =
        ap (λ (objects : List Object). cond (sees_room world player k) objects []) (table_objects k None is)
        ∙ elim (sees_room world player k) as (λ b. ◌≡◌ {A = List Object} (cond b [] []) []) [ true ↦ refl | false ↦ refl ]
    tables_as k (Some room) is =
        let place : k ≡ 0 + k = omega arith in
        let sees : sees_room world player k ≡ is_seen player room = ap (sees_room world player) place ∙ told stored sound player k room is in
        (λ i. cond (sees i) (table_objects k (Some room) is i) [])
        ∙ elim (is_seen player room) as (λ b. cond b room.table.objects [] ≡ unwrap_or (if b then Some room.table.objects else None) []) [ true ↦ refl | false ↦ refl ]

    pub tables_seen : (listed : List Standing) (are : map shown_entry listed ≡ entries world.objects) (objects : List Placed) (is : objects ≡ map shown (filter (is_flagged (map (is_seen player) stored.rooms)) listed)) (rooms : List RoomInView)
        → ((k : ℕ) → kept_objects k rooms ≡ option_and_then (objects_if_seen player) (slice_get stored.rooms k)) → HaveTables rooms objects
    tables_seen listed are objects is rooms have k =
        ap (placed_at k) (objects_seen stored sound player listed are objects is)
        ∙ shown_all (sees_room world player) k (entries world.objects)
        ∙ tables_as k (slice_get stored.rooms k) refl
        ∙ ap (λ (found : Option (List Object)). unwrap_or found []) (sym (have k))
