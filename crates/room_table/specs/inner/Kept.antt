-- The slot of a room's controller. For private clauses.
use Rattle.std.specs.Prelude.{◌≡◌, ℕ, ◌<◌, ◌==◌, ◌&&◌, ◌⊎◌, Bool, true, false, List, length, Option, Some}
use Rattle.std.specs.Prelude.{IfSome, option_map}
use Rattle.game_tables.specs.Numbers.{kind_number}
use Rattle.game_tables.specs.Kinds.{is_controller}
use Rattle.game_tables.specs.declared.kind.Kind.{Kind}
use Rattle.room_table.specs.declared.object.Object.{Object}
use Rattle.room_table.specs.Controllers.{controller_among}
use Rattle.room_table.specs.inner.Placed.{object_in, standing}

-- The controller among the objects is in this slot, and there is none where there is no slot.
pub record IsController (slots : List Object) (order : List ℕ) (kept : Option ℕ) : Type 0 where
  pub known : IfSome kept (λ slot. slot < length slots)
  pub its : option_map (object_in slots) kept ≡ controller_among (standing slots order)

-- The kept slot stays that of the controller where an object of a kind is put into a slot, in the place of
-- one of another kind: a controller into the kept slot, or no controller in the place of none.
abbrev pub Stays : Option ℕ → ℕ → Kind → Kind → Type 0
Stays kept slot was kind =
    ((is_controller kind ≡ true) × (kept ≡ Some slot))
    ⊎ ((is_controller kind ≡ false) × (is_controller was ≡ false))

-- It is an object of the kind on the tile.
abbrev pub is_kind_on : ℕ → ℕ → Kind → Object → Bool
is_kind_on x y kind o = (o.x == x) && (o.y == y) && (kind_number o.kind == kind_number kind)
