-- What the objects of a room's table are, by the slots in which they stand. For private clauses.
use Rattle.std.specs.Prelude.{◌≡◌, ℕ, ◌+◌, ◌*◌, ◌^◌, ◌<◌, ◌≤◌, ◌&&◌, nat_le, if◌then◌else◌, List, [], ◌∷◌}
use Rattle.std.specs.Prelude.{length, map, slice_index, slice_index_or, Option, Some, None, IfSome}
use Rattle.std.specs.Prelude.{option_map, ◌⊎◌, vec_capacity}
use Rattle.std.specs.declared.alloc.Global.{Global}
use Rattle.std.specs.declared.vec.Vec.{Vec}
use Rattle.std.specs.List.{AllByRecursion}
use Rattle.game_tables.specs.Numbers.{kind_number}
use Rattle.game_tables.specs.declared.kind.Kind.{Kind}
use Rattle.game_tables.specs.declared.kind.Kind.TheVariants.{Source}
use Rattle.room_table.specs.declared.object.Object.{Object}
use Rattle.room_table.specs.Tables.{IsRising}
use Rattle.room_table.specs.inner.Chains.{Chained, tile_at}

-- what is read where no slot is
abbrev pub no_object : Object
no_object = record {
  id = 0;
  kind = Source;
  x = 0;
  y = 0;
  owner = 0;
  hits = 0;
  energy = 0;
  timer = 0;
  extra = 0;
  progress = 0;
  other = 0;
  other_ticks = 0;
  body = [];
}

abbrev pub object_in : List Object → ℕ → Object
object_in slots slot = slice_index_or slots slot no_object

-- the objects, where their slots in rising id are these
abbrev pub standing : List Object → List ℕ → List Object
standing slots order = map (object_in slots) order

-- the number of a tile of the room, below 2500, and 2500 outside of it
abbrev pub tile_number : ℕ → ℕ → ℕ
tile_number x y = if nat_le x 49 && nat_le y 49 then 50 * y + x else 2500

abbrev pub tile_of_object : Object → ℕ
tile_of_object object = tile_number object.x object.y

-- A slot is one of these.
abbrev pub Among : ℕ → List ℕ → Type 0
Among slot [] = ⊥
Among slot (first ∷ order) = (first ≡ slot) ⊎ Among slot order

-- These are slots.
abbrev pub AreKnown : List Object → List ℕ → Type 0
AreKnown slots order = AllByRecursion (λ slot. slot < length slots) order

-- The object of the id stands in this slot, which has a place in the order.
pub record StandsIn (id : ℕ) (slots : List Object) (order : List ℕ) (slot : ℕ) : Type 0 where
  pub place : ℕ
  pub within : place < length order
  pub here : slice_index order place ≡ slot
  pub its : (object_in slots slot).id ≡ id

-- The slots of the objects are told on their tiles, and no others on a tile.
pub record IsPlaced (slots : List Object) (order tiles : List ℕ) : Type 0 where
  pub rising : IsRising (standing slots order)
  pub known : AreKnown slots order
  pub count : length order ≤ length slots
  pub tiled : length tiles ≡ length slots
  pub here : AllByRecursion (λ slot. tile_at tiles slot ≡ tile_of_object (object_in slots slot)) order
  pub listed : (slot : ℕ) → tile_at tiles slot < 2500 → Among slot order

-- The number is at most this one.
abbrev pub AtMost : Option ℕ → ℕ → Type 0
AtMost None n = ⊥
AtMost (Some found) n = found ≤ n

-- In this slot an object of the kind stands on the tile.
pub record IsKindIn (tile : ℕ) (kind : Kind) (slots : List Object) (tiles : List ℕ) (slot : ℕ) : Type 0 where
  pub on : tile_at tiles slot ≡ tile
  pub its : kind_number (object_in slots slot).kind ≡ kind_number kind

-- The id is the least of the objects of the kind on the tile that stand in this slot or a newer one.
pub record IsLeastFrom (from tile : ℕ) (kind : Kind) (slots : List Object) (tiles : List ℕ)
    (found : Option ℕ) : Type 0 where
  pub some : IfSome found (λ id. (slot : ℕ) × (IsKindIn tile kind slots tiles slot)
      × (id ≡ (object_in slots slot).id))
  pub least : (slot : ℕ) → from ≤ slot → IsKindIn tile kind slots tiles slot
      → AtMost found (object_in slots slot).id

-- In this slot an object stands on the tile under an id that is at least this one.
pub record IsOfTile (id tile : ℕ) (slots : List Object) (tiles : List ℕ) (slot : ℕ) : Type 0 where
  pub on : tile_at tiles slot ≡ tile
  pub late : id ≤ (object_in slots slot).id

-- the id of an object, where there is one
abbrev pub id_found : Option Object → Option ℕ
id_found found = option_map (λ object. object.id) found

-- The object is the one of the least id of these that stand in this slot or a newer one.
pub record IsNextOfTile (from id tile : ℕ) (slots : List Object) (tiles : List ℕ)
    (found : Option Object) : Type 0 where
  pub some : IfSome found (λ object. (slot : ℕ) × (IsOfTile id tile slots tiles slot)
      × (object ≡ object_in slots slot))
  pub least : (slot : ℕ) → from ≤ slot → IsOfTile id tile slots tiles slot
      → AtMost (id_found found) (object_in slots slot).id

-- There is room for some more objects.
pub record HasRoom (slots : Vec Object Global) (order : Vec ℕ Global) (tiles : Chained)
    (spare : ℕ) : Type 0 where
  pub count : length slots.items + spare < 2 ^ 32
  pub slots_room : length slots.items + spare ≤ vec_capacity slots
  pub order_room : length order.items + spare ≤ vec_capacity order
  pub tiles_room : length tiles.tiles + spare ≤ tiles.room
  pub heads : 0 < spare → tiles.heads ≡ 2500
