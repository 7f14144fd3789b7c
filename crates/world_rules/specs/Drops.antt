-- Energy that falls on a tile, and what a creep drops.
use Rattle.std.specs.Prelude.{ℕ, ◌+◌, ◌-◌, ◌==◌, ◌&&◌, min, Bool, if◌then◌else◌, [], Option, Some, None}
use Rattle.std.specs.List.{find}
use Rattle.std.specs.FinMap.{get, values}
use Rattle.game_tables.specs.Fields.{most_energy}
use Rattle.game_tables.specs.declared.action.Action.TheVariants.{DropLoad}
use Rattle.game_tables.specs.declared.kind.Kind.TheVariants.{Pile}
use Rattle.room_table.specs.declared.object.Object.{Object}
use Rattle.intent_book.specs.declared.intent.Intent.{Intent}
use Rattle.game_tables.specs.Kinds.{is_pile}
use Rattle.world_rules.specs.RoomParts.{RoomPart}
use Rattle.world_rules.specs.Changes.{with_object, with_new}
use Rattle.world_rules.specs.Checks.{may_take_effect}

-- the most energy of a pile
abbrev pub pile_bound : ℕ
pile_bound = most_energy Pile 0 []

-- It is a pile on this tile.
abbrev pub is_pile_on : ℕ → ℕ → Object → Bool
is_pile_on x y object = is_pile object.kind && (object.x == x) && (object.y == y)

-- the pile of a tile, that of the least id if there were more
abbrev pub pile_on : ℕ → ℕ → RoomPart → Option Object
pile_on x y part = find (is_pile_on x y) (values part.objects)

-- a pile of this id, tile and energy
abbrev pub pile_of : ℕ → ℕ → ℕ → ℕ → Object
pile_of id x y energy = record {
  id = id;
  kind = Pile;
  x = x;
  y = y;
  owner = 0;
  hits = 0;
  energy = energy;
  timer = 0;
  extra = 0;
  progress = 0;
  other = 0;
  other_ticks = 0;
  body = [];
}

-- An amount falls on a tile with this pile: it grows, up to the most of a pile, the rest being lost. With
-- none a new one is made.
abbrev pub fallen_on : Option Object → ℕ → ℕ → ℕ → RoomPart → RoomPart
fallen_on (Some pile) x y amount part =
    with_object (record pile { energy = min pile_bound (pile.energy + amount) }) part
fallen_on None x y amount part = with_new (λ id. pile_of id x y (min pile_bound amount)) part

-- An amount falls on a tile; nothing is done where it is 0.
abbrev pub fallen : ℕ → ℕ → ℕ → RoomPart → RoomPart
fallen x y amount part = if amount == 0 then part else fallen_on (pile_on x y part) x y amount part

-- what is wanted of so much: all of it where no amount is named
abbrev pub wanted_of : ℕ → ℕ → ℕ
wanted_of amount all = if amount == 0 then all else min amount all

-- The amount leaves the creep and falls on its tile.
abbrev pub dropped_by : Object → ℕ → RoomPart → RoomPart
dropped_by creep amount part =
    fallen creep.x creep.y amount (with_object (record creep { energy = creep.energy - amount }) part)

abbrev pub dropped_of : Intent → Option Object → RoomPart → RoomPart
dropped_of entry None part = part
dropped_of entry (Some creep) part =
    if may_take_effect DropLoad entry part
    then dropped_by creep (wanted_of entry.amount creep.energy) part
    else part

-- what an entry to drop makes of a room's part
abbrev pub dropped : Intent → RoomPart → RoomPart
dropped entry part = dropped_of entry (get part.objects entry.actor) part
