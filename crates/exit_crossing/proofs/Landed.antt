-- Whether a creep may go to a tile, by what calls say of its room and of the other.
use Rattle.std.proofs.Common.{◌≡◌, ◌≢◌, ℕ, zero, suc, ◌<◌, List, [], ◌∷◌, length, Option, Some, None, refl, sym, ap, subst, ◌∙◌, option_map, arith, slice_get, nat_lt, true, false}
use Rattle.std.specs.Option.{is_some}
use Rattle.std.proofs.lemmas.Bool.{ltb-true, ltb-false, both_ways}
use Rattle.game_tables.specs.declared.kind.Kind.TheVariants.{Creep}
use Rattle.room_terrain.specs.Geometry.{Mirrors}
use Rattle.room_terrain.specs.Tiles.{tile}
use Rattle.room_terrain.specs.declared.name.RoomName.{RoomName}
use Rattle.room_terrain.specs.declared.terrain.Ground.{Ground}
use Rattle.room_terrain.specs.declared.terrain.Ground.TheVariants.{Plain, Wall, Swamp}
use Rattle.room_table.specs.declared.object.Object.{Object}
use Rattle.object_store.specs.declared.world.Room.{Room}
use Rattle.object_store.specs.Stored.{IsRoomNamed}
use Rattle.room_table.specs.Tables.{Table, find_object, first_on}
use Rattle.world_rules.specs.Moves.{is_open_ground}
use Rattle.exit_crossing.specs.declared.leaving.Crosser.{Crosser}
use Rattle.exit_crossing.specs.declared.crossing.Landing.{Landing}
use Rattle.exit_crossing.specs.inner.Landings.{Lands}
use Rattle.exit_crossing.proofs.Mirrored.{mirrors_once}

pub within_mapped : {A B : Type 0} (f : A → B) (xs : List A) (i : ℕ) (y : B) → option_map f (slice_get xs i) ≡ Some y → i < length xs
within_mapped f [] i y is = absurd cc
within_mapped f (x ∷ xs) zero y is = omega arith
within_mapped f (x ∷ xs) (suc i) y is = let rest = within_mapped f xs i y is in omega arith

-- the room of which a part is known
pub the_room : {B : Type 0} (f : Room → B) (found : Option Room) (y : B) → option_map f found ≡ Some y → (room : Room) × (found ≡ Some room) × (f room ≡ y)
the_room f None y is = absurd cc
the_room f (Some room) y is = (room, refl, cc)

one_of : {A B : Type 0} (f : A → B) (found : Option A) (x : A) (y : B) → found ≡ Some x → option_map f found ≡ Some y → f x ≡ y
one_of f found x y is mapped = let both : Some (f x) ≡ Some y = sym (ap (option_map f) is) ∙ mapped in cc

no_wall : (one : Ground) → one ≢ Wall → is_open_ground (Some one) ≡ true
no_wall Plain other = refl
no_wall Wall other = absurd (other refl)
no_wall Swamp other = refl

module _ (rooms : List Room) (crosser : Crosser) (table : Table) (creep : Object) (name : RoomName)
    (tabled : option_map (λ (room : Room). room.table) (slice_get rooms crosser.room) ≡ Some table)
    (called : option_map (λ (room : Room). room.name) (slice_get rooms crosser.room) ≡ Some name)
    (stood : find_object crosser.id table.objects ≡ Some creep) where
  same_creep : (was : Room) (other : Object) → slice_get rooms crosser.room ≡ Some was → find_object crosser.id was.table.objects ≡ Some other → other ≡ creep
  same_creep was other is found =
      let there : was.table ≡ table = one_of (λ (room : Room). room.table) (slice_get rooms crosser.room) was table is tabled in
      let both : Some other ≡ Some creep = sym found ∙ ap (λ (t : Table). find_object crosser.id t.objects) there ∙ stood in
      cc

  pub to_name : (at : Landing) (lands : Lands rooms crosser at) → Mirrors name creep.x creep.y lands.name at.x at.y
  to_name at lands =
      let called_so : lands.was.name ≡ name = one_of (λ (room : Room). room.name) (slice_get rooms crosser.room) lands.was name lands.left called in
      let same = same_creep lands.was lands.creep lands.left lands.stood in
      subst (λ (n : RoomName). Mirrors n creep.x creep.y lands.name at.x at.y) called_so
      (subst (λ (o : Object). Mirrors lands.was.name o.x o.y lands.name at.x at.y) same lands.mirrors)

  -- a creep may go nowhere but to the tile across from its own
  record Only (at : Landing) (next : RoomName) (x y : ℕ) (lands : Lands rooms crosser at) : Type 0 where
    pub next_is : lands.name ≡ next
    pub x_is : at.x ≡ x
    pub y_is : at.y ≡ y

  only : (at : Landing) (lands : Lands rooms crosser at) (next : RoomName) (x y : ℕ) → Mirrors name creep.x creep.y next x y → Only at next x y lands
  only at lands next x y mirrors =
      let same = mirrors_once name creep.x creep.y lands.name at.x at.y next x y (to_name at lands) mirrors in
      record { next_is = same.0; x_is = same.1; y_is = same.2 }

  pub no_room : (next : RoomName) (x y : ℕ) → Mirrors name creep.x creep.y next x y → ((k : ℕ) → ¬ IsRoomNamed next rooms k) → (at : Landing) → Lands rooms crosser at → ⊥
  no_room next x y mirrors nowhere at lands = nowhere at.room (subst (λ (n : RoomName). IsRoomNamed n rooms at.room) (only at lands next x y mirrors).next_is lands.named)

  -- the room is the first of its name
  pub same_place : (at : Landing) (lands : Lands rooms crosser at) (next : RoomName) (room x y : ℕ) → Mirrors name creep.x creep.y next x y
      → IsRoomNamed next rooms room → ((k : ℕ) → k < room → ¬ IsRoomNamed next rooms k) → (at.room ≡ room) × (at.x ≡ x) × (at.y ≡ y)
  same_place at lands next room x y mirrors named least =
      let is = only at lands next x y mirrors in (
        least_once at.room room
            (λ less. least at.room less (subst (λ (n : RoomName). IsRoomNamed n rooms at.room) is.next_is lands.named))
            (λ less. lands.least room less (subst (λ (n : RoomName). IsRoomNamed n rooms room) (sym is.next_is) named)),
        is.x_is,
        is.y_is,
      )
    where
      least_once : (a b : ℕ) → (a < b → ⊥) → (b < a → ⊥) → a ≡ b
      least_once a b low high = elim (nat_lt a b) as (λ t. nat_lt a b ≡ t → a ≡ b) [
        | true ↦ λ is. absurd (low (ltb-true a b is))
        | false ↦ λ is. elim (nat_lt b a) as (λ t. nat_lt b a ≡ t → a ≡ b) [
          | true ↦ λ more. absurd (high (ltb-true b a more))
          | false ↦ λ more. omega (arith, ltb-false a b is, ltb-false b a more)
        ] refl
      ] refl

  pub walled : (next : RoomName) (room x y : ℕ) (surface : List Ground) → Mirrors name creep.x creep.y next x y
      → IsRoomNamed next rooms room → ((k : ℕ) → k < room → ¬ IsRoomNamed next rooms k)
      → option_map (λ (room : Room). room.terrain) (slice_get rooms room) ≡ Some surface
      → slice_get surface (tile x y) ≡ Some Wall
      → (at : Landing) → Lands rooms crosser at → ⊥
  walled next room x y surface mirrors named least covered reads at lands =
      let is = same_place at lands next room x y mirrors named least in
      let terrain : lands.other.terrain ≡ surface = one_of (λ (r : Room). r.terrain) (slice_get rooms at.room) lands.other surface lands.entered (ap (λ (n : ℕ). option_map (λ (r : Room). r.terrain) (slice_get rooms n)) is.0 ∙ covered) in
      let shut : is_open_ground (slice_get lands.other.terrain (tile at.x at.y)) ≡ false = ap is_open_ground ((λ i. slice_get (terrain i) (tile (is.1 i) (is.2 i))) ∙ reads) in
      both_ways (is_open_ground (slice_get lands.other.terrain (tile at.x at.y))) shut lands.passable

  pub taken : (next : RoomName) (room x y : ℕ) (others : Table) → Mirrors name creep.x creep.y next x y
      → IsRoomNamed next rooms room → ((k : ℕ) → k < room → ¬ IsRoomNamed next rooms k)
      → option_map (λ (room : Room). room.table) (slice_get rooms room) ≡ Some others
      → is_some (option_map (λ (o : Object). o.id) (first_on x y Creep others.objects)) ≡ true
      → (at : Landing) → Lands rooms crosser at → ⊥
  taken next room x y others mirrors named least tabled_there some at lands =
      let is = same_place at lands next room x y mirrors named least in
      let there : lands.other.table ≡ others = one_of (λ (r : Room). r.table) (slice_get rooms at.room) lands.other others lands.entered (ap (λ (n : ℕ). option_map (λ (r : Room). r.table) (slice_get rooms n)) is.0 ∙ tabled_there) in
      let free : first_on x y Creep others.objects ≡ None = (λ i. first_on (sym is.1 i) (sym is.2 i) Creep (sym there i).objects) ∙ lands.free in
      let none : is_some (option_map (λ (o : Object). o.id) (first_on x y Creep others.objects)) ≡ false = ap (λ (found : Option Object). is_some (option_map (λ (o : Object). o.id) found)) free in
      absurd cc

  pub lands_there : (at : Landing) (next : RoomName) (others : Table) (surface : List Ground) (one : Ground)
      → Mirrors name creep.x creep.y next at.x at.y
      → IsRoomNamed next rooms at.room → ((k : ℕ) → k < at.room → ¬ IsRoomNamed next rooms k)
      → option_map (λ (room : Room). room.terrain) (slice_get rooms at.room) ≡ Some surface
      → slice_get surface (tile at.x at.y) ≡ Some one → one ≢ Wall
      → option_map (λ (room : Room). room.table) (slice_get rooms at.room) ≡ Some others
      → first_on at.x at.y Creep others.objects ≡ None
      → Lands rooms crosser at
  lands_there at next others surface one mirrors named least covered reads passable tabled_there free =
      let was = the_room (λ room. room.table) (slice_get rooms crosser.room) table tabled in
      let other = the_room (λ room. room.table) (slice_get rooms at.room) others tabled_there in
      let called_so : was.0.name ≡ name = one_of (λ (room : Room). room.name) (slice_get rooms crosser.room) was.0 name was.1 called in
      let terrain : other.0.terrain ≡ surface = one_of (λ (room : Room). room.terrain) (slice_get rooms at.room) other.0 surface other.1 covered in
      record {
        was = was.0;
        other = other.0;
        creep = creep;
        name = next;
        left = was.1;
        stood = ap (λ (t : Table). find_object crosser.id t.objects) was.2 ∙ stood;
        mirrors = subst (λ (n : RoomName). Mirrors n creep.x creep.y next at.x at.y) (sym called_so) mirrors;
        named = named;
        least = least;
        entered = other.1;
        passable = ap (λ (g : List Ground). is_open_ground (slice_get g (tile at.x at.y))) terrain ∙ ap is_open_ground reads ∙ no_wall one passable;
        free = ap (λ (t : Table). first_on at.x at.y Creep t.objects) other.2 ∙ free;
      }

pub nothing_mapped : {A B : Type 0} (f : A → B) (found : Option A) → is_some (option_map f found) ≡ false → found ≡ None
nothing_mapped f None is = refl
nothing_mapped f (Some x) is = absurd cc
