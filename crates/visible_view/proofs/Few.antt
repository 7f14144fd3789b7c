-- A sound world has so few objects that their number is one of 32 bits.
use Rattle.std.proofs.Common.{◌≡◌, ℕ, suc, ◌+◌, ◌*◌, ◌<◌, ◌≤◌, ◌^◌, ◌&&◌, ◌||◌, Bool, true, false, eqb, if◌then◌else◌, List, [], ◌∷◌, ◌++◌, map, length, refl, sym, ◌∙◌, inl, inr, arith}
use Rattle.std.specs.List.{All, AllByRecursion, Contains, IsDistinct, list_any, sum_by}
use Rattle.std.specs.FinMap.{entries, entries_sorted}
use Rattle.std.proofs.lemmas.Bool.{cases_eq, eqb-true, ne_eqb}
use Rattle.std.proofs.lemmas.List.{length-map}
use Rattle.std.proofs.lemmas.List.Elements.{All-append, All-contains, All-from_recursion, All-map, All-weaker, All-nil}
use Rattle.std.proofs.lemmas.List.Sums.{count_by-le-length}
use Rattle.std.proofs.lemmas.List.Sorted.{Contains-permutation, IsPermutation-sym, length_permutation}
use Rattle.std.proofs.lemmas.Map.Steps.{length-le_from_distinct_below}
use Rattle.game_tables.specs.declared.kind.Kind.{Kind}
use Rattle.game_tables.specs.declared.kind.Kind.TheVariants.{Source, Controller, Creep, Spawn, Extension, Storage, Container, Road, Pile, Site, Tower, Rampart, Wall, Tombstone}
use Rattle.game_tables.specs.Limits.{most_rooms}
use Rattle.room_table.specs.declared.object.Object.{Object}
use Rattle.object_store.specs.declared.world.Room.{Room}
use Rattle.object_store.specs.Stored.{Stored}
use Rattle.room_table.proofs.Rising.{Rises}
use Rattle.world_rules.specs.declared.rule.Rule.TheVariants.{Range, Shared}
use Rattle.game_tables.specs.Kinds.{is_creep, is_pile, stands_fixed, clash}
use Rattle.world_rules.specs.Rules.{Stands, IsInRangeAs}
use Rattle.room_table.specs.Tables.{IsOnTile}
use Rattle.world_rules.specs.Sound.{IsSound, IsSoundRoom}
use Rattle.world_rules.specs.World.{Placed, World, placed, placed_from, listed_room, listing_of, world_of}
use Rattle.world_rules.proofs.Entries.{Entries}
use Rattle.visible_view.specs.inner.Gathered.{is_seen, from_each, room_if_seen}
use Rattle.visible_view.specs.Sights.{SeenRoom}
use Rattle.room_table.proofs.Moved.{all_from_within}
use Rattle.visible_view.proofs.Seen.{rises_from_sorted, entry_at, moved, stands, counted_at, counted_stored, counts_entry}

-- ---- what may share a tile

-- the creep, the pile or what stands fixed: of each a tile has one at most
abbrev layer : Kind → ℕ
layer Creep = 0
layer Pile = 1
layer _ = 2

creep_only : (kind : Kind) → layer kind ≡ 0 → is_creep kind ≡ true
creep_only Creep is = refl
creep_only Pile is = absurd (omega arith)
creep_only _ is = absurd (omega arith)

pile_only : (kind : Kind) → layer kind ≡ 1 → is_pile kind ≡ true
pile_only Pile is = refl
pile_only Creep is = absurd (omega arith)
pile_only _ is = absurd (omega arith)

layer_below : (kind : Kind) → layer kind < 3
layer_below Creep = omega arith
layer_below Pile = omega arith
layer_below _ = omega arith

out_of_range : (kind : Kind) (object : Object) → layer kind ≡ 2 → stands_fixed kind ≡ false → IsInRangeAs kind object → ⊥
out_of_range Source object is fixed range = absurd (cc)
out_of_range Controller object is fixed range = absurd (cc)
out_of_range Creep object is fixed range = absurd (omega arith)
out_of_range Spawn object is fixed range = absurd (cc)
out_of_range Extension object is fixed range = absurd (cc)
out_of_range Storage object is fixed range = absurd (cc)
out_of_range Container object is fixed range = absurd (cc)
out_of_range Road object is fixed range = absurd (cc)
out_of_range Pile object is fixed range = absurd (omega arith)
out_of_range Site object is fixed range = absurd (cc)
out_of_range Tower object is fixed range = range
out_of_range Rampart object is fixed range = range
out_of_range Wall object is fixed range = range
out_of_range Tombstone object is fixed range = range

left : (a b : Bool) → a ≡ true → (a || b) ≡ true
left true b is = refl
left false b is = absurd (cc)

right : (a b : Bool) → b ≡ true → (a || b) ≡ true
right true b is = refl
right false b is = is

and : (a b : Bool) → a ≡ true → b ≡ true → (a && b) ≡ true
and true b one other = other
and false b one other = absurd (cc)

same_layer : (one other : Kind) → layer one ≡ layer other → (layer one ≡ 2 → stands_fixed one ≡ true) → (layer other ≡ 2 → stands_fixed other ≡ true) → clash one other ≡ true
same_layer one other same fixed other_fixed =
    let below = layer_below one in
    elim (cases_eq (layer one) 0) [
      | inl creep ↦ left _ _ (left _ _ (left _ _ (left _ _ (and _ _ (creep_only one creep) (creep_only other (sym same ∙ creep))))))
      | inr apart ↦ elim (cases_eq (layer one) 1) [
        | inl pile ↦ left _ _ (left _ _ (left _ _ (right _ _ (and _ _ (pile_only one pile) (pile_only other (sym same ∙ pile))))))
        | inr neither ↦ (
            let last : layer one ≡ 2 = omega arith in
            left _ _ (left _ _ (right _ _ (and _ _ (fixed last) (other_fixed (sym same ∙ last)))))
            )
      ]
    ]

-- ---- the number of a place

-- an object's room, tile and layer as one number
abbrev code : ℕ × Placed → ℕ
code e = 3 * (50 * (50 * e.1.room + e.1.object.x) + e.1.object.y) + layer e.1.object.kind

abbrev IsPlaced : ℕ → ℕ × Placed → Type 0
IsPlaced rooms e = (e.1.room < rooms) × IsOnTile e.1.object

placed_so : (n index : ℕ) (rooms : List Room) → index + length rooms ≤ n → AllByRecursion IsSoundRoom rooms → All (IsPlaced n) (placed_from index (map listed_room rooms))
placed_so n index [] within sound = All-nil (IsPlaced n)
placed_so n index (room ∷ rooms) within sound =
    All-append (IsPlaced n) (map (entry_at index) room.table.objects) (placed_from (suc index) (map listed_room rooms))
    (All-map (IsPlaced n) (entry_at index) room.table.objects (All-weaker IsOnTile (λ o. IsPlaced n (entry_at index o)) (λ o tile. (omega arith, tile)) room.table.objects (All-from_recursion IsOnTile room.table.objects sound.0.tiles)))
    (placed_so n (suc index) rooms (omega arith) sound.1)

by_three : (a b c d : ℕ) → 3 * a + b ≡ 3 * c + d → b < 3 → d < 3 → (a ≡ c) × (b ≡ d)
by_three a b c d same low other = (omega arith, omega arith)

by_row : (a b c d : ℕ) → 50 * a + b ≡ 50 * c + d → b < 50 → d < 50 → (a ≡ c) × (b ≡ d)
by_row a b c d same low other = (omega arith, omega arith)

code_below : (e : ℕ × Placed) → IsPlaced 400 e → code e < 2 ^ 22
code_below e so =
    let room : e.1.room < 400 = so.0 in
    let column : e.1.object.x ≤ 49 = so.1.column in
    let row : e.1.object.y ≤ 49 = so.1.row in
    let low = layer_below e.1.object.kind in
    omega arith

-- ---- a sound world

module _ (stored : Stored) (sound : IsSound stored) (few : length stored.rooms ≤ most_rooms) where
  abbrev listed : Entries
  listed = placed (listing_of stored)

  abbrev world : World
  world = world_of stored

  fixed : (e : ℕ × Placed) → Stands world e.0 e.1 → layer e.1.object.kind ≡ 2 → stands_fixed e.1.object.kind ≡ true
  fixed e stand is =
      elim (stands_fixed e.1.object.kind) as (λ b. stands_fixed e.1.object.kind ≡ b → b ≡ true) [
        | true ↦ λ at. refl
        | false ↦ λ at. absurd (sound.rules Range e.0 (λ r. cc) (λ r. cc) (e.1, stand, out_of_range e.1.object.kind e.1.object is at))
      ] refl

  -- two objects never have one code
  apart : (e f : ℕ × Placed) → e.0 < f.0 → Stands world e.0 e.1 → Stands world f.0 f.1 → IsOnTile e.1.object → IsOnTile f.1.object → code e ≡ code f → ⊥
  apart e f less stand stand_too tile tile_too same =
      let layers = by_three _ _ _ _ same (layer_below e.1.object.kind) (layer_below f.1.object.kind) in
      let rows = by_row _ _ _ _ layers.0 (omega (arith, tile.row)) (omega (arith, tile_too.row)) in
      let columns = by_row _ _ _ _ rows.0 (omega (arith, tile.column)) (omega (arith, tile_too.column)) in
      sound.rules Shared f.0 (λ r. cc) (λ r. cc) (e.0, e.1, f.1, less, stand, stand_too, record { room = columns.0; column = columns.1; row = rows.1; clash = same_layer e.1.object.kind f.1.object.kind layers.1 (fixed e stand) (fixed f stand_too) })

  abbrev IsGood : ℕ × Placed → Type 0
  IsGood e = Stands world e.0 e.1 × IsPlaced 400 e

  all_apart : (e : ℕ × Placed) (es : Entries) → IsGood e → AllByRecursion (λ f. e.0 < f.0) es → AllByRecursion IsGood es → AllByRecursion (λ n. eqb (code e) n ≡ false) (map code es)
  all_apart e [] good above goods = tt
  all_apart e (f ∷ es) good above goods = (
    ne_eqb (code e) (code f) (apart e f above.0 good.0 goods.0.0 good.1.1 goods.0.1.1),
    all_apart e es good above.1 goods.1,
  )

  distinct : (es : Entries) → Rises (λ e. e.0) es → AllByRecursion IsGood es → IsDistinct eqb (map code es)
  unfolding IsDistinct
  distinct [] rises goods = tt
  distinct (e ∷ es) rises goods = (all_apart e es goods.0 rises.0 goods.1, distinct es rises.1 goods.1)

  below : (es : Entries) → AllByRecursion IsGood es → (q : ℕ) → list_any (eqb q) (map code es) ≡ true → q < 2 ^ 22
  below [] goods q is = absurd (cc)
  below (e ∷ es) goods q is =
      elim (eqb q (code e)) as (λ b. eqb q (code e) ≡ b → (b || list_any (eqb q) (map code es)) ≡ true → q < 2 ^ 22) [
        | true ↦ λ here any. (let same : q ≡ code e = eqb-true q (code e) here in let low = code_below e goods.0.1 in omega arith)
        | false ↦ λ here any. below es goods.1 q any
      ] refl is

  good : (e : ℕ × Placed) → Contains (entries world.objects) e → IsGood e
  good e within =
      let here = Contains-permutation (entries world.objects) listed e (IsPermutation-sym listed (entries world.objects) (moved stored sound)) within in
      (stands stored sound e here, All-contains (IsPlaced 400) listed e (placed_so 400 0 stored.rooms (omega arith) sound.rooms) here)

  pub few_listed : length listed ≤ 2 ^ 22
  few_listed =
      let goods = all_from_within IsGood (entries world.objects) good in
      let bound = length-le_from_distinct_below (map code (entries world.objects)) (2 ^ 22) (distinct (entries world.objects) (rises_from_sorted (entries world.objects) (entries_sorted world.objects)) goods) (below (entries world.objects) goods) in
      let same = length_permutation listed (entries world.objects) (moved stored sound) in
      omega (arith, length-map (entries world.objects) code)

  pub few_counted : (counts : Object → Bool) → sum_by (counted_at counts) stored.rooms < 2 ^ 32
  few_counted counts = omega (arith, few_listed, counted_stored counts 0 stored.rooms, count_by-le-length (counts_entry counts) listed)

-- no more rooms are seen than there are
pub few_rooms : (player index : ℕ) (rooms : List Room) → length (from_each (room_if_seen player) index rooms) ≤ length rooms
few_rooms player index [] = omega arith
few_rooms player index (room ∷ rooms) =
    let rest : length (from_each (room_if_seen player) (suc index) rooms) ≤ length rooms = few_rooms player (suc index) rooms in
    let shown : SeenRoom = record { index = index; name = room.name; grounds = room.terrain } in
    elim (is_seen player room) as (λ b. length ((if b then shown ∷ [] else []) ++ from_each (room_if_seen player) (suc index) rooms) ≤ suc (length rooms)) [ true ↦ omega arith | false ↦ omega arith ]
