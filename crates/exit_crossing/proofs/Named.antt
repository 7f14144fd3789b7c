-- The first room of a name, in the world and among the stored rooms.
use Rattle.std.proofs.Common.{◌≡◌, ℕ, zero, suc, ◌+◌, ◌<◌, Bool, true, false, cond, List, [], ◌∷◌, map, Option, Some, refl, sym, ap, ◌∙◌, option_map, arith}
use Rattle.std.specs.List.{find}
use Rattle.std.specs.Ordering.{int_eq}
use Rattle.std.proofs.lemmas.Bool.{and_parts, and_from}
use Rattle.std.proofs.lemmas.Bool.Decides.{Decides-int_eq}
use Rattle.room_terrain.specs.declared.name.RoomName.{RoomName}
use Rattle.object_store.specs.declared.world.Room.{Room}
use Rattle.object_store.specs.Stored.{Stored, IsRoomNamed}
use Rattle.world_rules.specs.World.{Frame, framed_from, listed_room, world_of}
use Rattle.world_rules.specs.Crossings.{same_name, room_named}
use Rattle.world_rules.proofs.Lifting.{frames_stored}

names_same : (one other : RoomName) → same_name one other ≡ true → one ≡ other
names_same one other is =
    let parts = and_parts (int_eq one.column other.column) (int_eq one.row other.row) is in
    let column = (Decides-int_eq one.column other.column).0 parts.0 in
    let row = (Decides-int_eq one.row other.row).0 parts.1 in
    λ i. record { column = column i; row = row i }

same_names : (one other : RoomName) → one ≡ other → same_name one other ≡ true
same_names one other is = and_from (int_eq one.column other.column) (int_eq one.row other.row) ((Decides-int_eq one.column other.column).1 (ap (λ (n : RoomName). n.column) is)) ((Decides-int_eq one.row other.row).1 (ap (λ (n : RoomName). n.row) is))

abbrev first_from : ℕ → List Room → RoomName → Option (ℕ × Frame)
first_from index rooms name = find (λ (entry : ℕ × Frame). same_name entry.1.name name) (framed_from index (map listed_room rooms))

abbrev index_of : Option (ℕ × Frame) → Option ℕ
index_of found = option_map (λ (entry : ℕ × Frame). entry.0) found

first_is : (index k : ℕ) (rooms : List Room) (name : RoomName) → IsRoomNamed name rooms k → ((j : ℕ) → j < k → ¬ IsRoomNamed name rooms j) → index_of (first_from index rooms name) ≡ Some (index + k)
first_is index k [] name named least = absurd cc
first_is index zero (room ∷ rooms) name named least =
    let called : room.name ≡ name = cc in
    ap (λ (b : Bool). index_of (cond b (Some (index, (listed_room room).frame)) (first_from (suc index) rooms name))) (same_names room.name name called)
    ∙ ap Some (omega arith)
first_is index (suc k) (room ∷ rooms) name named least =
    elim (same_name room.name name) as (λ b. same_name room.name name ≡ b → index_of (cond b (Some (index, (listed_room room).frame)) (first_from (suc index) rooms name)) ≡ Some (index + suc k)) [
      | true ↦ λ is. absurd (least 0 (omega arith) (ap Some (names_same room.name name is)))
      | false ↦ λ is. first_is (suc index) k rooms name named (λ j less. least (suc j) (omega (arith, less))) ∙ ap Some (omega arith)
    ] refl

pub record FirstNamed (rooms : List Room) (name : RoomName) (index found : ℕ) : Type 0 where
  pub place : ℕ
  pub at : found ≡ index + place
  pub named : IsRoomNamed name rooms place
  pub least : (j : ℕ) → j < place → ¬ IsRoomNamed name rooms j

later : (room : Room) (rooms : List Room) (name : RoomName) (index found : ℕ) → (room.name ≡ name → ⊥) → FirstNamed rooms name (suc index) found → FirstNamed (room ∷ rooms) name index found
later room rooms name index found other first = record {
  place = suc first.place;
  at = omega (arith, first.at);
  named = first.named;
  least = before;
}
  where
    before : (j : ℕ) → j < suc first.place → ¬ IsRoomNamed name (room ∷ rooms) j
    before zero less named = let called : room.name ≡ name = cc in other called
    before (suc j) less named = first.least j (omega (arith, less)) named

is_first : (index : ℕ) (rooms : List Room) (name : RoomName) (found : ℕ) → index_of (first_from index rooms name) ≡ Some found → FirstNamed rooms name index found
is_first index [] name found is = absurd cc
is_first index (room ∷ rooms) name found is =
    elim (same_name room.name name) as (λ b. same_name room.name name ≡ b → index_of (cond b (Some (index, (listed_room room).frame)) (first_from (suc index) rooms name)) ≡ Some found → FirstNamed (room ∷ rooms) name index found) [
      | true ↦ λ same got.
          let at : index ≡ found = cc in
          record { place = 0; at = omega (arith, at); named = ap Some (names_same room.name name same); least = λ j less. absurd (omega (arith, less)) }
      | false ↦ λ other got.
          later room rooms name index found (λ called. apart (same_name room.name name) other (same_names room.name name called)) (is_first (suc index) rooms name found got)
    ] refl is
  where
    apart : (b : Bool) → b ≡ false → b ≡ true → ⊥
    apart b one another = let both : false ≡ true = sym one ∙ another in cc

pub room_first : (stored : Stored) (name : RoomName) (k : ℕ) → IsRoomNamed name stored.rooms k → ((j : ℕ) → j < k → ¬ IsRoomNamed name stored.rooms j) → room_named (world_of stored) name ≡ Some k
room_first stored name k named least =
    ap (λ (es : List (ℕ × Frame)). index_of (find (λ (entry : ℕ × Frame). same_name entry.1.name name) es)) (frames_stored stored)
    ∙ first_is 0 k stored.rooms name named least ∙ ap Some (omega arith)

pub first_room : (stored : Stored) (name : RoomName) (found : ℕ) → room_named (world_of stored) name ≡ Some found → FirstNamed stored.rooms name 0 found
first_room stored name found is =
    is_first 0 stored.rooms name found
    (sym (ap (λ (es : List (ℕ × Frame)). index_of (find (λ (entry : ℕ × Frame). same_name entry.1.name name) es)) (frames_stored stored)) ∙ is)
