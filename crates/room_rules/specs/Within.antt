-- The ranges of fields within a tick, where they are wider than between ticks.
use Rattle.std.specs.Prelude.{◌≡◌, ◌≤◌, ◌==◌, if◌then◌else◌, length}
use Rattle.game_tables.specs.Bodies.{most_parts}
use Rattle.game_tables.specs.Fields.{most_energy, most_timer, most_extra}
use Rattle.game_tables.specs.Kinds.{hits_max}
use Rattle.game_tables.specs.declared.kind.Kind.{Kind}
use Rattle.game_tables.specs.declared.kind.Kind.TheVariants.{Controller, Creep}
use Rattle.room_table.specs.declared.object.Object.{Object}
use Rattle.world_rules.specs.Rules.{IsFrom1To, IsController, IsCreep, IsInRangeAs}

-- How far a tick is: between ticks; once controllers have lost time and before crossings; once loads fell and
-- before that; once the hits of creeps and buildings were settled; and before that.
pub data Stage : Type 0 where
  between : Stage
  moved : Stage
  summed : Stage
  settled : Stage
  within : Stage

-- After upkeep a creep keeps whether it moved.
pub record IsCreepMoved (object : Object) : Type 0 where
  pub other_ticks : object.other_ticks ≤ 1
  pub rested : IsCreep (record object { other_ticks = 0 })

-- A creep may have lost all its hits, its load may be above what its live parts carry but not above what all
-- do, and it keeps whether it moved.
pub record IsCreepWithin (object : Object) : Type 0 where
  pub owner : 1 ≤ object.owner
  pub hits : object.hits ≤ hits_max Creep object.body
  pub energy : object.energy ≤ most_energy Creep (hits_max Creep object.body) object.body
  pub timer : IsFrom1To (most_timer Creep object.extra object.body) object.timer
  pub extra : object.extra ≤ most_extra Creep
  pub progress : object.progress ≡ 0
  pub other : object.other ≡ 0
  pub other_ticks : object.other_ticks ≤ 1
  pub some_parts : 1 ≤ length object.body
  pub parts : length object.body ≤ most_parts

-- Once hits are settled it has some left.
pub record IsCreepSettled (object : Object) : Type 0 where
  pub alive : 1 ≤ object.hits
  pub within : IsCreepWithin object

-- a controller without what it keeps beside of a tick: what was put into it, where it has a level
abbrev pub without_sum : Object → Object
without_sum controller =
    record controller { other_ticks = if controller.extra == 0 then controller.other_ticks else 0 }

-- A controller of a level keeps what was put into it in the tick.
abbrev pub IsControllerWithin : Object → Type 0
IsControllerWithin object = IsController (without_sum object)

-- The fields are in the kind's ranges at this stage of a tick.
abbrev pub IsInRangeIn : Kind → Stage → Object → Type 0
IsInRangeIn Creep between object = IsCreep object
IsInRangeIn Creep moved object = IsCreepMoved object
IsInRangeIn Creep summed object = IsCreepMoved object
IsInRangeIn Creep settled object = IsCreepSettled object
IsInRangeIn Creep within object = IsCreepWithin object
IsInRangeIn Controller summed object = IsControllerWithin object
IsInRangeIn Controller settled object = IsControllerWithin object
IsInRangeIn Controller within object = IsControllerWithin object
IsInRangeIn kind stage object = IsInRangeAs kind object
