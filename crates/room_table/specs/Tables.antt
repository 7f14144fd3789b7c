-- The objects of a room as they are stored.
use Rattle.std.specs.Prelude.{◌≡◌, ℕ, ◌<◌, ◌≤◌, ◌==◌, ◌&&◌, nat_lt, nat_le, max, if◌then◌else◌, List, [], ◌∷◌}
use Rattle.std.specs.Prelude.{◌++◌, map, Bool, false, Option, Some, None, not}
use Rattle.std.specs.List.{AllByRecursion, find, filter, list_any}
use Rattle.std.specs.FinMap.{remove}
use Rattle.game_tables.specs.Kinds.{obstructs, stands_fixed}
use Rattle.game_tables.specs.Numbers.{kind_number}
use Rattle.game_tables.specs.declared.kind.Kind.{Kind}
use Rattle.room_table.specs.declared.object.Object.{Object}
use Rattle.room_table.specs.Tallies.{Tallies, most_sum, no_tallies, no_tally, tally_of}

-- The objects stand in rising id, each id once.
abbrev pub IsRising : List Object → Type 0
IsRising [] = Unit {0}
IsRising (o ∷ os) = AllByRecursion (λ later. o.id < later.id) os × IsRising os

-- the objects of a room in rising id, the room's index, the serial of its next new object, how many more
-- objects it takes without memory, and what was done to its objects so far in a tick
pub record Table : Type 0 where
  pub index : ℕ
  pub next : ℕ
  pub objects : List Object
  pub spare : ℕ
  pub tallies : Tallies

-- the object of an id
abbrev pub find_object : ℕ → List Object → Option Object
find_object id = find (λ o. o.id == id)

-- the object of the least id that is at least this one
abbrev pub find_from : ℕ → List Object → Option Object
find_from id = find (λ o. nat_le id o.id)

-- the greatest id of the objects, and 0 where there are none
abbrev pub greatest_id : List Object → ℕ
greatest_id [] = 0
greatest_id (object ∷ later) = max object.id (greatest_id later)

-- An object of this id stands there.
abbrev pub HasId : ℕ → List Object → Type 0
HasId id objects = (object : Object) × (find_object id objects ≡ Some object)

-- No object of this id stands there.
abbrev pub HasNoId : ℕ → List Object → Type 0
HasNoId id objects = find_object id objects ≡ None

-- The object's tile is in the room.
pub record IsOnTile (object : Object) : Type 0 where
  pub column : object.x ≤ 49
  pub row : object.y ≤ 49

-- the objects with this one in the place of the one of its id
abbrev pub with_object : Object → List Object → List Object
with_object object objects = map (λ o. if o.id == object.id then object else o) objects

-- the objects with this one between those of lesser and those of greater ids
abbrev pub with_new : Object → List Object → List Object
with_new object objects =
    filter (λ o. nat_lt o.id object.id) objects ++ object ∷ filter (λ o. nat_lt object.id o.id) objects

-- the objects but that of this id
abbrev pub without : ℕ → List Object → List Object
without id objects = filter (λ o. not (o.id == id)) objects

-- a table without the object of an id, and without what was done to it
abbrev pub removed : ℕ → Table → Table
removed id table =
    record table { objects = without id table.objects; tallies = remove table.tallies id }

-- what a table lists, without memory for more and without what was done to objects
abbrev pub without_spare : Table → Table
without_spare table = record table { spare = 0; tallies = no_tallies }

-- Nothing was done to an object that doesn't stand there, and no sum passes its most.
pub record AreTalliesOf (objects : List Object) (tallies : Tallies) : Type 0 where
  pub absent : (id : ℕ) → HasNoId id objects → tally_of id tallies ≡ no_tally
  pub damage : (id : ℕ) → (tally_of id tallies).damage ≤ most_sum
  pub healing : (id : ℕ) → (tally_of id tallies).healing ≤ most_sum

-- The object is on this tile.
abbrev pub is_on : ℕ → ℕ → Object → Bool
is_on x y object = (object.x == x) && (object.y == y)

-- the object of the least id on a tile that is at least this one
abbrev pub first_on_from : ℕ → ℕ → ℕ → List Object → Option Object
first_on_from x y id = find (λ o. is_on x y o && nat_le id o.id)

-- the object for which what is done to another counts. Under the first rules each counts for itself.
abbrev pub cover_of : ℕ → List Object → ℕ
cover_of id objects = id

-- the first object of this kind on this tile, which has the least id there
abbrev pub first_on : ℕ → ℕ → Kind → List Object → Option Object
first_on x y kind objects =
    find (λ o. (o.x == x) && (o.y == y) && (kind_number o.kind == kind_number kind)) objects

-- The tile is barred to a player. Under the first rules no tile is.
abbrev pub is_barred : ℕ → ℕ → ℕ → List Object → Bool
is_barred x y player objects = false

-- Something that obstructs a player's creeps stands on the tile. Under the first rules it is the same for all
-- players.
abbrev pub is_obstructed : ℕ → ℕ → ℕ → List Object → Bool
is_obstructed x y player objects = list_any (λ o. (o.x == x) && (o.y == y) && obstructs o.kind) objects

-- The tile has no source, controller, building or site. Under the first rules it is the same for sites of all
-- kinds.
abbrev pub is_site_free : ℕ → ℕ → Kind → List Object → Bool
is_site_free x y kind objects = not (list_any (λ o. is_on x y o && stands_fixed o.kind) objects)
