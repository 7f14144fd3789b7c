-- How much energy an object holds, and which building a site is of.
use Rattle.std.specs.Prelude.{ℕ, ◌-◌, ◌==◌, List, [], ◌∷◌, Option}
use Rattle.std.specs.List.{find}
use Rattle.game_tables.specs.Bodies.{load_room}
use Rattle.game_tables.specs.Kinds.{source_capacity, store_capacity}
use Rattle.game_tables.specs.Numbers.{kind_number}
use Rattle.game_tables.specs.declared.kind.Kind.{Kind}
use Rattle.game_tables.specs.declared.kind.Kind.TheVariants.{Source, Creep, Spawn, Extension, Storage}
use Rattle.game_tables.specs.declared.kind.Kind.TheVariants.{Container, Road}
use Rattle.room_table.specs.Controllers.{is_taken, level_of}
use Rattle.room_table.specs.declared.object.Object.{Object}

-- the energy that an object holds, by its room's controller: a source by whether the room is taken, a creep
-- by its live parts, and a building by the room's level
abbrev pub capacity_as : Kind → Option Object → Object → ℕ
capacity_as Source controller object = source_capacity (is_taken controller)
capacity_as Creep controller object = load_room object.hits object.body
capacity_as kind controller object = store_capacity kind (level_of controller)

abbrev pub capacity : Option Object → Object → ℕ
capacity controller object = capacity_as object.kind controller object

-- how much more it takes: nothing where it holds more than that
abbrev pub free_room : Option Object → Object → ℕ
free_room controller object = capacity controller object - object.energy

-- the kinds that are built from sites
abbrev pub site_kinds : List Kind
site_kinds = Spawn ∷ Extension ∷ Storage ∷ Container ∷ Road ∷ []

-- the kind of the building that a site is of, whose number it keeps
abbrev pub building_of : Object → Option Kind
building_of site = find (λ kind. kind_number kind == site.extra) site_kinds
