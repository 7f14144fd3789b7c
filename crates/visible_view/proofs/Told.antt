-- What the calls of a view tell.
use Rattle.std.proofs.Common.{◌≡◌, ◌≢◌, ℕ, zero, suc, ◌<◌, ◌≤◌, ◌==◌, ◌&&◌, ltb, cond, true, false, List, [], ◌∷◌, map, length, get_or, Option, Some, None, option_map, refl, sym, ap, subst, ◌∙◌, inl, inr, arith}
use Rattle.std.specs.List.{AllByRecursion, filter, find}
use Rattle.std.specs.Prelude.{slice_get}
use Rattle.std.specs.Option.{unwrap_or}
use Rattle.std.specs.List.Sorted.{IsPartitionPoint}
use Rattle.std.proofs.lemmas.Bool.{cases_eq, eq-eqb, eqb-true, ltb-true, ne_eqb}
use Rattle.std.proofs.lemmas.List.Elements.{All-from_recursion}
use Rattle.object_store.specs.declared.account.Account.{Account}
use Rattle.object_store.specs.Stored.{find_account}
use Rattle.room_table.specs.declared.object.Object.{Object}
use Rattle.room_table.proofs.Rising.{Rises, absent_there}
use Rattle.world_rules.specs.World.{Placed}
use Rattle.game_tables.specs.Kinds.{is_controller}
use Rattle.room_table.specs.Controllers.{controller_among}
use Rattle.visible_view.specs.Sights.{SeenRoom, Sight}
use Rattle.visible_view.specs.Fields.{objects_at, place_by, room_at}
use Rattle.visible_view.specs.inner.Gathered.{shown_room, index_in, HaveTables}
use Rattle.visible_view.specs.declared.gather.RoomInView.{RoomInView}
use Rattle.room_table.proofs.Moved.{found_within}

pub found_player : (player : ℕ) (accounts : List Account) (account : Account) → find_account player accounts ≡ Some account → account.player ≡ player
found_player player accounts account is = eqb-true account.player player (found_within (λ (a : Account). a.player == player) accounts account is).1

pub find_shown : (index : ℕ) (rooms : List RoomInView) → find (λ (room : SeenRoom). room.index == index) (map shown_room rooms) ≡ option_map shown_room (find (λ room. index_in room == index) rooms)
find_shown index [] = refl
find_shown index (room ∷ rooms) =
    let rest = find_shown index rooms in
    elim (room.index == index) as (λ b. cond b (Some (shown_room room)) (find (λ (r : SeenRoom). r.index == index) (map shown_room rooms)) ≡ option_map shown_room (cond b (Some room) (find (λ r. index_in r == index) rooms))) [ true ↦ refl | false ↦ rest ]

-- The place of a number in a rising list of which others are told.
pub place_at : {X Y : Type 0} (key : X → ℕ) (tell : Y → X) (n : ℕ) (ys : List Y) (i : ℕ) (d : Y) → Rises (λ y. key (tell y)) ys → i < length ys → key (tell (get_or ys i d)) ≡ n → place_by key n (map tell ys) ≡ Some i
place_at key tell n [] i d rises within here = absurd (omega arith)
place_at key tell n (first ∷ ys) zero d rises within here = rw (eq-eqb (key (tell first)) n here) refl
place_at key tell n (first ∷ ys) (suc i) d rises within here =
    let below : key (tell first) < key (tell (get_or ys i d)) = All-from_recursion (λ later. key (tell first) < key (tell later)) ys rises.0 i d (omega arith) in
    let apart : key (tell first) ≡ n → ⊥ = λ same. omega arith in
    rw (ne_eqb (key (tell first)) n apart) (ap (option_map suc) (place_at key tell n ys i d rises.1 (omega arith) here))

pub place_absent : {X Y : Type 0} (key : X → ℕ) (tell : Y → X) (n : ℕ) (ys : List Y) → find (λ y. key (tell y) == n) ys ≡ None → place_by key n (map tell ys) ≡ None
place_absent key tell n [] absent = refl
place_absent key tell n (first ∷ ys) absent =
    elim (cases_eq (key (tell first)) n) [
      | inl same ↦ (let some : Some first ≡ None = rw (eq-eqb (key (tell first)) n same) at absent in absurd (cc))
      | inr other ↦ rw (ne_eqb (key (tell first)) n other) (ap (option_map suc) (place_absent key tell n ys (rw (ne_eqb (key (tell first)) n other) at absent)))
    ]

-- What is looked for in a rising list, at a place where it is or would be.
module _ {X Y : Type 0} (key : X → ℕ) (tell : Y → X) (n : ℕ) (ys : List Y) (told : List X) (shows : map tell ys ≡ told) (rises : Rises (λ y. key (tell y)) ys) (place : ℕ) (listed : List Y) (same : listed ≡ ys) where
  pub place_found : (d : Y) → true ≡ ltb place (length listed) → d ≡ get_or listed place d → key (tell d) ≡ n → Some place ≡ place_by key n told
  place_found d within read here =
      let below : place < length ys = subst (λ (zs : List Y). place < length zs) same (ltb-true _ _ (sym within)) in
      let at : get_or ys place d ≡ d = sym (read ∙ ap (λ (zs : List Y). get_or zs place d) same) in
      sym (place_at key tell n ys place d rises below (ap (λ y. key (tell y)) at ∙ here)) ∙ ap (place_by key n) shows

  pub place_missing : (seen : List Y) → seen ≡ ys → place ≤ length seen → IsPartitionPoint (λ y. key (tell y) < n) (λ y. n ≤ key (tell y)) seen place
      → ((d : Y) → place < length listed → key (tell (get_or listed place d)) ≢ n) → None ≡ place_by key n told
  place_missing seen is within point other =
      let apart = subst (λ (zs : List Y). (d : Y) → place < length zs → key (tell (get_or zs place d)) ≢ n) same other in
      sym (place_absent key tell n ys (absent_there (λ y. key (tell y)) n seen ys place is rises within point apart)) ∙ ap (place_by key n) shows

pub room_told : (index : ℕ) (rooms : List RoomInView) (sight : Sight) → map shown_room rooms ≡ sight.rooms → (found : Option RoomInView) → found ≡ find (λ room. index_in room == index) rooms → room_at sight index ≡ option_map shown_room found
room_told index rooms sight same found is = ap (find (λ (room : SeenRoom). room.index == index)) (sym same) ∙ find_shown index rooms ∙ ap (option_map shown_room) (sym is)

-- A controller is found in a room as among its objects.
pub controller_found : (index : ℕ) (objects : List Placed) → option_map (λ (p : Placed). p.object) (find (λ (p : Placed). (p.room == index) && is_controller p.object.kind) objects)
    ≡ controller_among (map (λ (p : Placed). p.object) (filter (λ (p : Placed). p.room == index) objects))
controller_found index [] = refl
controller_found index (first ∷ objects) =
    let rest = controller_found index objects in
    elim (first.room == index) as (λ b. option_map (λ (p : Placed). p.object) (cond (b && is_controller first.object.kind) (Some first) (find (λ (p : Placed). (p.room == index) && is_controller p.object.kind) objects))
    ≡ controller_among (map (λ (p : Placed). p.object) (cond b (first ∷ filter (λ (p : Placed). p.room == index) objects) (filter (λ (p : Placed). p.room == index) objects)))) [
      | true ↦ elim (is_controller first.object.kind) as (λ b. option_map (λ (p : Placed). p.object) (cond b (Some first) (find (λ (p : Placed). (p.room == index) && is_controller p.object.kind) objects))
          ≡ cond b (Some first.object) (controller_among (map (λ (p : Placed). p.object) (filter (λ (p : Placed). p.room == index) objects)))) [ true ↦ refl | false ↦ rest ]
      | false ↦ rest
    ]

-- the objects of the table of a room that is found
abbrev pub among : Option RoomInView → List Object
among found = unwrap_or (option_map (λ (room : RoomInView). room.room.now.table.objects) found) []

-- The objects of a room are those of its table, where it is kept, and none else.
pub objects_told : (index : ℕ) (rooms : List RoomInView) (objects : List Placed) (sight : Sight) → HaveTables rooms objects → objects ≡ sight.objects → (found : Option RoomInView)
    → found ≡ find (λ room. index_in room == index) rooms → objects_at sight index ≡ among found
objects_told index rooms objects sight have same found is =
    ap (λ (ps : List Placed). map (λ (p : Placed). p.object) (filter (λ (p : Placed). p.room == index) ps)) (sym same)
    ∙ have index
    ∙ ap among (sym is)

-- In a rising list the room of an index is the one that is read.
above_read : (index : ℕ) (rooms : List RoomInView) (place : ℕ) (room : RoomInView) → AllByRecursion (λ later. index < index_in later) rooms → slice_get rooms place ≡ Some room → index < room.index
above_read index [] place room above is = absurd cc
above_read index (first ∷ rooms) zero room above is = let same : first ≡ room = cc in subst (λ (r : RoomInView). index < r.index) same above.0
above_read index (first ∷ rooms) (suc place) room above is = above_read index rooms place room above.1 is

find_read : (rooms : List RoomInView) (place : ℕ) (room : RoomInView) → Rises index_in rooms → slice_get rooms place ≡ Some room → find (λ r. index_in r == room.index) rooms ≡ Some room
find_read [] place room rises is = absurd cc
find_read (first ∷ rooms) zero room rises is =
    let same : first ≡ room = cc in
    rw (eq-eqb first.index room.index (ap index_in same)) (ap Some same)
find_read (first ∷ rooms) (suc place) room rises is =
    let above = above_read first.index rooms place room rises.0 is in
    rw (ne_eqb first.index room.index (λ same. omega (arith, same, above))) (find_read rooms place room rises.1 is)

-- The objects of a room that is kept are those of its table.
pub kept_told : (rooms : List RoomInView) (objects : List Placed) (sight : Sight) → Rises index_in rooms → HaveTables rooms objects → objects ≡ sight.objects → (place : ℕ) (room : RoomInView) → slice_get rooms place ≡ Some room
    → objects_at sight room.index ≡ room.room.now.table.objects
kept_told rooms objects sight rises have same place room is =
    objects_told room.index rooms objects sight have same (Some room) (sym (find_read rooms place room rises is))
