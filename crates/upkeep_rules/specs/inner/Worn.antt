-- The course of a step in which what objects held may fall on their tiles, place by place.
use Rattle.std.specs.Prelude.{◌≡◌, ℕ, ◌+◌, ◌-◌, ◌==◌, ◌&&◌, ◌||◌, ◌<◌, ◌≤◌, nat_lt, nat_le, if◌then◌else◌}
use Rattle.std.specs.Prelude.{Bool, true, false, List, map, length, drop, Option, Some, None, slice_get}
use Rattle.std.specs.List.{AllByRecursion, filter}
use Rattle.game_tables.specs.Bodies.{load_room}
use Rattle.game_tables.specs.Kinds.{is_building, is_creep}
use Rattle.game_tables.specs.declared.kind.Kind.{Kind}
use Rattle.room_terrain.specs.declared.terrain.Ground.{Ground}
use Rattle.room_table.specs.declared.object.Object.{Object}
use Rattle.room_table.specs.declared.tally.Tally.{Tally}
use Rattle.room_table.specs.Tables.{Table}
use Rattle.room_table.specs.Tallies.{tally_of}
use Rattle.world_rules.specs.RoomParts.{RoomPart, table_part}
use Rattle.world_rules.specs.RuleBook.{Sums}
use Rattle.world_rules.specs.Changes.{with_object, without}
use Rattle.world_rules.specs.Drops.{fallen}
use Rattle.world_rules.specs.Steps.{over_ids}
use Rattle.world_rules.specs.Upkeep.{aged_as, decays, hits_left, struck_as, unloaded_as, weathered}
use Rattle.world_rules.specs.Upkeep.{weathered_as}
use Rattle.room_rules.specs.Calls.{IsReadyFor, Keeps, KeepsTallies}
use Rattle.upkeep_rules.specs.declared.wearing.Outcome.{Outcome}
use Rattle.upkeep_rules.specs.declared.wearing.Outcome.TheVariants.{Stays, Changes, Drops, Goes}
use Rattle.upkeep_rules.specs.declared.wearing.Wear.{Wear}
use Rattle.upkeep_rules.specs.declared.wearing.Wear.TheVariants.{Strike, Unload, Age, Weather}

-- ---- one object

-- the change of a room's part that an object makes in its turn
abbrev pub change : Wear → Sums → Object → RoomPart → RoomPart
change Strike sums = struck_as sums
change Unload sums = λ object. unloaded_as object.kind object
change Age sums = λ object. aged_as object.kind object
change (Weather in_owned) sums = weathered_as in_owned

-- the kinds that a step concerns
abbrev pub concerns : Wear → Kind → Bool
concerns Strike kind = is_creep kind || is_building kind
concerns Unload kind = is_creep kind
concerns Age kind = is_creep kind
concerns (Weather in_owned) kind = decays kind

-- the same sums for all objects
abbrev pub sums_of : Tally → Sums
sums_of tally = record { damage = λ id. tally.damage; healing = λ id. tally.healing }

-- what the sums say of an object
abbrev pub tally_in : Sums → ℕ → Tally
tally_in sums id = record { damage = sums.damage id; healing = sums.healing id }

-- what a step leaves of an object: whether it stands, how it is, and what falls on its tile
pub record Leaving : Type 0 where
  pub stands : Bool
  pub object : Object
  pub falls : ℕ

abbrev pub stays : Object → Leaving
stays object = record { stands = true; object = object; falls = 0 }

-- All that it held falls.
abbrev pub goes : Object → Leaving
goes object = record { stands = false; object = object; falls = object.energy }

abbrev pub drops : Object → ℕ → Leaving
drops object amount =
    record { stands = true; object = record object { energy = object.energy - amount }; falls = amount }

-- It goes where it has no hits.
abbrev pub stays_or_goes : Object → Leaving
stays_or_goes object = if object.hits == 0 then goes object else stays object

-- what a step leaves of an object that it concerns
abbrev pub worn : Wear → Tally → Object → Leaving
worn Strike tally object =
    stays_or_goes (record object { hits = hits_left object.kind (sums_of tally) object })
worn Unload tally creep = drops creep (creep.energy - load_room creep.hits creep.body)
worn Age tally creep =
    if nat_lt 1 creep.timer then stays (record creep { timer = creep.timer - 1 }) else goes creep
worn (Weather in_owned) tally building = stays_or_goes (weathered in_owned building)

-- what an outcome leaves of an object
abbrev pub left_of : Object → Outcome → Leaving
left_of object Stays = stays object
left_of object (Changes left) = stays left
left_of object (Drops left amount) = record { stands = true; object = left; falls = amount }
left_of object (Goes left) = goes left

-- the part with what is left of an object, before anything falls
abbrev pub left_in : Leaving → RoomPart → RoomPart
left_in left part = if left.stands then with_object left.object part else without left.object.id part

abbrev pub made : Leaving → RoomPart → RoomPart
made left part = fallen left.object.x left.object.y left.falls (left_in left part)

-- ---- all objects

-- the objects from a place on
abbrev pub ahead : ℕ → Table → List Object
ahead place table = drop place table.objects

-- those that a step concerns, and their ids
abbrev pub concerned : Wear → List Object → List Object
concerned step objects = filter (λ object. concerns step object.kind) objects

abbrev pub ids_of : List Object → List ℕ
ids_of objects = map (λ object. object.id) objects

-- the part of a room once those from a place on had their turns
abbrev pub once_worn : Wear → Sums → ℕ → List Ground → Table → RoomPart
once_worn step sums place grounds table =
    over_ids (change step sums) (ids_of (concerned step (ahead place table))) (table_part grounds table)

-- The sums are those of the table for these objects.
abbrev pub AreSumsFor : Sums → Table → List Object → Type 0
AreSumsFor sums table objects =
    AllByRecursion (λ object. tally_in sums object.id ≡ tally_of object.id table.tallies) objects

-- how much is left to do from a place on
abbrev pub tasks : Wear → ℕ → Table → ℕ
tasks step place table = length (concerned step (ahead place table)) + length (ahead place table)

-- ---- the piles that may be made

-- an object that may leave a pile as it goes
abbrev pub may_drop : Wear → Object → Bool
may_drop (Weather in_owned) object = decays object.kind && nat_lt 0 object.energy
may_drop _ object = is_creep object.kind || is_building object.kind

-- one more for each creep that unloads, since it goes later
abbrev pub may_unload : Wear → List Object → ℕ
may_unload Unload objects = length objects
may_unload _ objects = 0

-- how many piles may be made from a place on, in this step and as the objects go
abbrev pub budget : Wear → ℕ → Table → ℕ
budget step place table =
    length (filter (may_drop step) table.objects) + may_unload step (concerned step (ahead place table))

-- ---- the turns

-- An amount fell on the tile of an object, if there was any.
pub record HasFallen (object : Object) (amount : ℕ) (old new : Table) : Type 0 where
  pub none : amount ≡ 0 → new ≡ old
  pub rule : 0 < amount → (grounds : List Ground)
      → table_part grounds new ≡ fallen object.x object.y amount (table_part grounds old)
  pub tallies : 0 < amount → KeepsTallies old new
  pub keeps : 0 < amount → Keeps old new

abbrev pub place_past : ℕ → ℕ → Option Object → ℕ
place_past id place None = place
place_past id place (Some object) = if nat_le object.id id then place + 1 else place

-- the place itself, or the next one where an object of no greater id stands there
abbrev pub place_behind : ℕ → ℕ → List Object → ℕ
place_behind id place objects = place_past id place (slice_get objects place)

-- Some turns lead from a place of a table to another place: the turns from there on make the same of the
-- room, and the table is ready for them.
pub record IsTurn (step : Wear) (place : ℕ) (old : Table) (to : ℕ) (new : Table) : Type 0 where
  pub ready : IsReadyFor (budget step to new) new
  pub index : new.index ≡ old.index
  pub used : new.next + new.spare ≡ old.next + old.spare
  pub later : old.next ≤ new.next
  pub made : new.next + budget step to new ≤ old.next + budget step place old
  pub rule : (sums : Sums) → AreSumsFor sums old (concerned step (ahead place old))
      → AreSumsFor sums new (concerned step (ahead to new))
      × ((grounds : List Ground)
      → once_worn step sums to grounds new ≡ once_worn step sums place grounds old)
