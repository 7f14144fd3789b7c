-- Who stands where.
use Rattle.std.specs.Prelude.{◌≡◌, ◌≢◌, ℕ, ◌==◌, ◌&&◌, Bool, true, false, Option, Some}
use Rattle.std.specs.FinMap.{get}
use Rattle.room_table.specs.declared.object.Object.{Object}
use Rattle.game_tables.specs.Kinds.{is_creep}
use Rattle.world_rules.specs.World.{Placed, World}
use Rattle.world_rules.specs.RoomParts.{RoomPart}
use Rattle.world_rules.specs.Movement.{is_creep_on}

-- Each object of the part stands under its id.
abbrev pub AreKeyed : RoomPart → Type 0
AreKeyed part = (id : ℕ) (object : Object) → get part.objects id ≡ Some object → object.id ≡ id

-- Each object of the world stands under its id.
abbrev pub AreAllKeyed : World → Type 0
AreAllKeyed world =
    (id : ℕ) (placed : Placed) → get world.objects id ≡ Some placed → placed.object.id ≡ id

-- The change keeps ids.
abbrev pub KeepsIds : (Object → Option Object) → Type 0
KeepsIds change = (object after : Object) → change object ≡ Some after → after.id ≡ object.id

-- No creep of the part stands on the tile of another.
abbrev pub AreCreepsApart : RoomPart → Type 0
AreCreepsApart part =
    (id key : ℕ) (one other : Object) → get part.objects id ≡ Some one → get part.objects key ≡ Some other
    → id ≢ key → is_creep one.kind ≡ true → is_creep_on one.x one.y other ≡ false

-- It is a creep on the tile of this room.
abbrev pub is_creep_at : ℕ → ℕ → ℕ → Placed → Bool
is_creep_at room x y placed =
    (placed.room == room) && is_creep placed.object.kind && (placed.object.x == x) && (placed.object.y == y)

-- No creep of the world stands on the tile of another.
abbrev pub AreAllApart : World → Type 0
AreAllApart world =
    (id key : ℕ) (one other : Placed) → get world.objects id ≡ Some one → get world.objects key ≡ Some other
    → id ≢ key → is_creep one.object.kind ≡ true
    → is_creep_at one.room one.object.x one.object.y other ≡ false
