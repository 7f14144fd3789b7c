-- What is true of an object by its kind.
use Rattle.std.specs.Prelude.{ℕ, ◌+◌, ◌*◌, ◌/◌, ◌==◌, ◌&&◌, ◌||◌, Bool, true, false, if◌then◌else◌, Option}
use Rattle.std.specs.Prelude.{Some, None, List, [], length}
use Rattle.game_tables.specs.declared.kind.Kind.{Kind}
use Rattle.game_tables.specs.declared.kind.Kind.TheVariants.{Source, Controller, Creep, Spawn, Extension}
use Rattle.game_tables.specs.declared.kind.Kind.TheVariants.{Storage, Container, Road, Pile, Site, Tower}
use Rattle.game_tables.specs.declared.kind.Kind.TheVariants.{Rampart, Wall, Tombstone}
use Rattle.game_tables.specs.declared.kind.Part.{Part}

abbrev pub is_source : Kind → Bool
is_source Source = true
is_source _ = false

abbrev pub is_controller : Kind → Bool
is_controller Controller = true
is_controller _ = false

abbrev pub is_creep : Kind → Bool
is_creep Creep = true
is_creep _ = false

abbrev pub is_pile : Kind → Bool
is_pile Pile = true
is_pile _ = false

abbrev pub is_site : Kind → Bool
is_site Site = true
is_site _ = false

-- it is built from a site
abbrev pub is_building : Kind → Bool
is_building Spawn = true
is_building Extension = true
is_building Storage = true
is_building Container = true
is_building Road = true
is_building _ = false

-- no creep may step on its tile
abbrev pub obstructs : Kind → Bool
obstructs Source = true
obstructs Controller = true
obstructs Spawn = true
obstructs Extension = true
obstructs Storage = true
obstructs _ = false

-- it has always an owner
abbrev pub is_owned : Kind → Bool
is_owned Creep = true
is_owned Spawn = true
is_owned Extension = true
is_owned Storage = true
is_owned Site = true
is_owned _ = false

-- objects of it stand in a world of these rules: the last four kinds come with the second rules, which are
-- not in force yet
abbrev pub is_in_rules : Kind → ℕ → Bool
is_in_rules Tower rules = false
is_in_rules Rampart rules = false
is_in_rules Wall rules = false
is_in_rules Tombstone rules = false
is_in_rules kind rules = true

-- a site may be of it, under these rules
abbrev pub is_site_kind : Kind → ℕ → Bool
is_site_kind kind rules = is_building kind

-- a site of it needs a controller of its owner in the room
abbrev pub needs_owned_room : Kind → Bool
needs_owned_room Spawn = true
needs_owned_room Extension = true
needs_owned_room Storage = true
needs_owned_room _ = false

-- the most hits, of a creep by its parts
abbrev pub hits_max : Kind → List Part → ℕ
hits_max Creep parts = 100 * length parts
hits_max Spawn parts = 5000
hits_max Extension parts = 1000
hits_max Storage parts = 10000
hits_max Container parts = 250000
hits_max Road parts = 5000
hits_max _ parts = 0

-- the hits of a building that was just made
abbrev pub built_hits : Kind → ℕ
built_hits kind = if is_building kind then hits_max kind [] else 0

-- the work until it is built
abbrev pub build_total : Kind → Option ℕ
build_total Spawn = Some 15000
build_total Extension = Some 3000
build_total Storage = Some 30000
build_total Container = Some 5000
build_total Road = Some 300
build_total _ = None

-- the full decay timer, in a room whose controller has an owner or in another
abbrev pub full_timer : Kind → Bool → ℕ
full_timer Container true = 500
full_timer Container false = 100
full_timer Road in_owned = 1000
full_timer _ in_owned = 0

-- the energy that an extension holds, by the level of its room
abbrev pub extension_capacity : ℕ → ℕ
extension_capacity level = if level == 8 then 200 else if level == 7 then 100 else 50

-- the energy that a building holds, by the level of its room
abbrev pub store_capacity : Kind → ℕ → ℕ
store_capacity Spawn level = 300
store_capacity Extension level = extension_capacity level
store_capacity Storage level = 1000000
store_capacity Container level = 2000
store_capacity _ level = 0

-- the energy that a source is filled to, where the room's controller is owned or reserved or not
abbrev pub source_capacity : Bool → ℕ
source_capacity true = 3000
source_capacity false = 1500

-- the ticks after which a source that was not full is filled
abbrev pub renewal_ticks : ℕ
renewal_ticks = 300

-- what a pile loses in a tick: a thousandth of its energy, rounded up
abbrev pub pile_decay : ℕ → ℕ
pile_decay energy = (energy + 999) / 1000

-- ---- what may share a tile, and have an owner

-- A tile has at most one of these: source, controller, building and site.
abbrev pub stands_fixed : Kind → Bool
stands_fixed kind = is_source kind || is_controller kind || is_building kind || is_site kind

-- A controller may have an owner, and each owned kind has one.
abbrev pub may_have_owner : Kind → Bool
may_have_owner kind = is_controller kind || is_owned kind

-- Two objects of these kinds may not share a tile: two creeps, two piles, two that stand fixed, and a creep
-- with one that obstructs.
abbrev pub clash : Kind → Kind → Bool
clash one other =
    (is_creep one && is_creep other) || (is_pile one && is_pile other)
    || (stands_fixed one && stands_fixed other) || (is_creep one && obstructs other)
    || (obstructs one && is_creep other)
