-- The greatest values of an object's fields between ticks.
use Rattle.std.specs.Prelude.{ℕ, ◌*◌, true, List, length}
use Rattle.std.specs.Option.{unwrap_or}
use Rattle.game_tables.specs.Bodies.{lifetime, load_room}
use Rattle.game_tables.specs.Kinds.{store_capacity, full_timer, renewal_ticks, source_capacity}
use Rattle.game_tables.specs.Levels.{downgrade_number, last_level}
use Rattle.game_tables.specs.declared.kind.Kind.{Kind}
use Rattle.game_tables.specs.declared.kind.Kind.TheVariants.{Source, Controller, Creep, Spawn, Pile, Site}
use Rattle.game_tables.specs.declared.kind.Part.{Part}

-- energy, of a creep by its hits and its body
abbrev pub most_energy : Kind → ℕ → List Part → ℕ
most_energy Source hits parts = source_capacity true
most_energy Creep hits parts = load_room hits parts
most_energy Pile hits parts = 1000000000
most_energy kind hits parts = store_capacity kind last_level

-- the timer: of a controller by its level, of a creep and of a spawn by the body
abbrev pub most_timer : Kind → ℕ → List Part → ℕ
most_timer Source level parts = renewal_ticks
most_timer Controller level parts = unwrap_or (downgrade_number level) 0
most_timer Creep level parts = lifetime parts
most_timer Spawn level parts = 3 * length parts
most_timer kind level parts = full_timer kind true

-- `extra`: a controller's level, a creep's fatigue, the number of a site's kind
abbrev pub most_extra : Kind → ℕ
most_extra Controller = last_level
most_extra Creep = 500
most_extra Site = 8
most_extra _ = 0

-- `other_ticks`: the ticks of a reservation
abbrev pub most_other_ticks : Kind → ℕ
most_other_ticks Controller = 5000
most_other_ticks _ = 0
