-- The rules of a world, and where each is broken.
use Rattle.std.specs.Prelude.{◌≡◌, ◌≢◌, ℕ, ◌/◌, ◌%◌, ◌^◌, ◌<◌, ◌≤◌, ◌==◌, ◌⊎◌, ◌&&◌, List, [], length, true}
use Rattle.std.specs.Prelude.{false, Option, Some, None, slice_get}
use Rattle.std.specs.List.{count_by}
use Rattle.std.specs.FinMap.{get}
use Rattle.game_tables.specs.declared.kind.Kind.{Kind}
use Rattle.game_tables.specs.declared.kind.Kind.TheVariants.{Source, Controller, Creep, Spawn, Extension}
use Rattle.game_tables.specs.declared.kind.Kind.TheVariants.{Storage, Container, Road, Pile, Site}
use Rattle.game_tables.specs.Bodies.{most_parts}
use Rattle.game_tables.specs.Fields.{most_energy, most_timer, most_extra, most_other_ticks}
use Rattle.game_tables.specs.Kinds.{hits_max, is_site_kind, build_total, is_source, is_controller, is_creep}
use Rattle.game_tables.specs.Kinds.{is_pile, is_site, may_have_owner, clash}
use Rattle.game_tables.specs.Levels.{downgrade_number, total_for_next}
use Rattle.game_tables.specs.Numbers.{kind_number}
use Rattle.game_tables.specs.Limits.{most_rooms, most_objects, most_players, most_sites}
use Rattle.room_terrain.specs.declared.terrain.Ground.{Ground}
use Rattle.room_terrain.specs.declared.terrain.Ground.TheVariants.{Wall}
use Rattle.room_terrain.specs.Tiles.{tile, IsBorder}
use Rattle.room_table.specs.declared.object.Object.{Object}
use Rattle.object_store.specs.declared.account.Account.{Account}
use Rattle.world_rules.specs.declared.rule.Rule.{Rule}
use Rattle.world_rules.specs.declared.rule.Rule.TheVariants as rules
use Rattle.world_rules.specs.World.{Placed, Frame, World, Listing, placed, world_listed}

-- This object stands in the world under this id.
abbrev pub Stands : World → ℕ → Placed → Type 0
Stands world id placed = get world.objects id ≡ Some placed

-- The room has this index.
abbrev pub IsRoom : World → ℕ → Frame → Type 0
IsRoom world index frame = get world.rooms index ≡ Some frame

abbrev pub IsWall : List Ground → ℕ → ℕ → Type 0
IsWall grounds x y = slice_get grounds (tile x y) ≡ Some Wall

abbrev pub IsPlayer : World → ℕ → Type 0
IsPlayer world player = (account : Account) × (get world.accounts player ≡ Some account)

-- There is a room, and there are no more rooms, objects and players than may be.
pub record IsWithinCounts (listing : Listing) : Type 0 where
  pub some : 1 ≤ length listing.rooms
  pub rooms : length listing.rooms ≤ most_rooms
  pub objects : length (placed listing) ≤ most_objects
  pub players : length listing.accounts ≤ most_players

-- An earlier room has the same name.
abbrev pub HasEarlierName : World → ℕ → Type 0
HasEarlierName world index =
    (earlier : ℕ) × (first : Frame) × (second : Frame) × (earlier < index) × IsRoom world earlier first
    × IsRoom world index second × (first.name ≡ second.name)

-- A corner of the room is no wall.
abbrev pub HasOpenCorner : List Ground → Type 0
HasOpenCorner grounds =
    ¬ IsWall grounds 0 0 ⊎ ¬ IsWall grounds 49 0 ⊎ ¬ IsWall grounds 0 49 ⊎ ¬ IsWall grounds 49 49

-- The id's room part is no room, or its serial is 0 or was not given yet.
abbrev pub HasNoBirth : World → ℕ → Type 0
HasNoBirth world id =
    ((frame : Frame) → IsRoom world (id / 2 ^ 32) frame → frame.next ≤ id % 2 ^ 32) ⊎ (id % 2 ^ 32 ≡ 0)

-- Only sources and controllers stand on walls, and only creeps and piles on border tiles.
abbrev pub IsOnWrongTile : List Ground → Object → Type 0
IsOnWrongTile grounds object =
    ((is_source object.kind ≡ false) × (is_controller object.kind ≡ false) × IsWall grounds object.x object.y)
    ⊎ ((is_creep object.kind ≡ false) × (is_pile object.kind ≡ false) × IsBorder object.x object.y)

-- The objects are on one tile, where their kinds may not be together.
pub record IsInTheWay (one other : Placed) : Type 0 where
  pub room : one.room ≡ other.room
  pub column : one.object.x ≡ other.object.x
  pub row : one.object.y ≡ other.object.y
  pub clash : clash one.object.kind other.object.kind ≡ true

-- An owner or reserver is no listed player, or the kind may not have one.
abbrev pub HasWrongOwner : World → Object → Type 0
HasWrongOwner world object =
    ((object.owner ≢ 0) × (¬ IsPlayer world object.owner ⊎ (may_have_owner object.kind ≡ false)))
    ⊎ ((object.other ≢ 0) × (¬ IsPlayer world object.other ⊎ (is_controller object.kind ≡ false)))

-- ---- the fields of each kind, with their ranges between ticks: one that a kind doesn't use is 0, and a body
-- empty

-- From 1 to the most.
abbrev pub IsFrom1To : ℕ → ℕ → Type 0
IsFrom1To most n = (1 ≤ n) × (n ≤ most)

-- Below the total, and 0 where there is none.
abbrev pub IsProgress : Option ℕ → ℕ → Type 0
IsProgress None progress = progress ≡ 0
IsProgress (Some total) progress = progress < total

-- A controller's timer: from 1 to the level's number, and 0 at the level that has none.
abbrev pub IsDowngradeTimer : Option ℕ → ℕ → Type 0
IsDowngradeTimer None timer = timer ≡ 0
IsDowngradeTimer (Some full) timer = IsFrom1To full timer

pub record IsSource (object : Object) : Type 0 where
  pub owner : object.owner ≡ 0
  pub hits : object.hits ≡ 0
  pub energy : object.energy ≤ most_energy Source object.hits object.body
  pub timer : object.timer ≤ most_timer Source object.extra object.body
  pub extra : object.extra ≡ 0
  pub progress : object.progress ≡ 0
  pub other : object.other ≡ 0
  pub other_ticks : object.other_ticks ≡ 0
  pub body : object.body ≡ []

-- Its level is 0 exactly where nobody owns it, and only then it may be reserved.
pub record IsController (object : Object) : Type 0 where
  pub unowned : object.owner ≡ 0 → object.extra ≡ 0
  pub owned : object.owner ≢ 0 → 1 ≤ object.extra
  pub hits : object.hits ≡ 0
  pub energy : object.energy ≡ 0
  pub timer : IsDowngradeTimer (downgrade_number object.extra) object.timer
  pub extra : object.extra ≤ most_extra Controller
  pub progress : IsProgress (total_for_next object.extra) object.progress
  pub other : object.other ≢ 0 → object.extra ≡ 0
  pub unreserved : object.other ≡ 0 → object.other_ticks ≡ 0
  pub reserved : object.other ≢ 0 → IsFrom1To (most_other_ticks Controller) object.other_ticks
  pub body : object.body ≡ []

-- Its load is at most what its live parts carry.
pub record IsCreep (object : Object) : Type 0 where
  pub owner : 1 ≤ object.owner
  pub hits : IsFrom1To (hits_max Creep object.body) object.hits
  pub energy : object.energy ≤ most_energy Creep object.hits object.body
  pub timer : IsFrom1To (most_timer Creep object.extra object.body) object.timer
  pub extra : object.extra ≤ most_extra Creep
  pub progress : object.progress ≡ 0
  pub other : object.other ≡ 0
  pub other_ticks : object.other_ticks ≡ 0
  pub some_parts : 1 ≤ length object.body
  pub parts : length object.body ≤ most_parts

-- It makes a creep of the body exactly while the timer runs.
pub record IsSpawn (object : Object) : Type 0 where
  pub owner : 1 ≤ object.owner
  pub hits : IsFrom1To (hits_max Spawn object.body) object.hits
  pub energy : object.energy ≤ most_energy Spawn object.hits object.body
  pub timer : object.timer ≤ most_timer Spawn object.extra object.body
  pub idle : object.timer ≡ 0 → object.body ≡ []
  pub busy : object.timer ≢ 0 → 1 ≤ length object.body
  pub extra : object.extra ≡ 0
  pub progress : object.progress ≡ 0
  pub other : object.other ≡ 0
  pub other_ticks : object.other_ticks ≡ 0
  pub parts : length object.body ≤ most_parts

-- An extension or a storage.
pub record IsStore (kind : Kind) (object : Object) : Type 0 where
  pub owner : 1 ≤ object.owner
  pub hits : IsFrom1To (hits_max kind object.body) object.hits
  pub energy : object.energy ≤ most_energy kind object.hits object.body
  pub timer : object.timer ≡ 0
  pub extra : object.extra ≡ 0
  pub progress : object.progress ≡ 0
  pub other : object.other ≡ 0
  pub other_ticks : object.other_ticks ≡ 0
  pub body : object.body ≡ []

-- A container or a road, which nobody owns and which decays. A road holds no energy.
pub record IsDecaying (kind : Kind) (object : Object) : Type 0 where
  pub owner : object.owner ≡ 0
  pub hits : IsFrom1To (hits_max kind object.body) object.hits
  pub energy : object.energy ≤ most_energy kind object.hits object.body
  pub timer : IsFrom1To (most_timer kind object.extra object.body) object.timer
  pub extra : object.extra ≡ 0
  pub progress : object.progress ≡ 0
  pub other : object.other ≡ 0
  pub other_ticks : object.other_ticks ≡ 0
  pub body : object.body ≡ []

pub record IsPile (object : Object) : Type 0 where
  pub owner : object.owner ≡ 0
  pub hits : object.hits ≡ 0
  pub energy : IsFrom1To (most_energy Pile object.hits object.body) object.energy
  pub timer : object.timer ≡ 0
  pub extra : object.extra ≡ 0
  pub progress : object.progress ≡ 0
  pub other : object.other ≡ 0
  pub other_ticks : object.other_ticks ≡ 0
  pub body : object.body ≡ []

-- It tells the number of the kind that is built, and how far.
pub record IsSite (object : Object) : Type 0 where
  pub owner : 1 ≤ object.owner
  pub hits : object.hits ≡ 0
  pub energy : object.energy ≡ 0
  pub timer : object.timer ≡ 0
  pub built : (kind : Kind) × (is_site_kind kind 1 ≡ true) × (object.extra ≡ kind_number kind)
      × IsProgress (build_total kind) object.progress
  pub other : object.other ≡ 0
  pub other_ticks : object.other_ticks ≡ 0
  pub body : object.body ≡ []

-- The fields are in the kind's ranges. The kinds of the second rules have none.
abbrev pub IsInRangeAs : Kind → Object → Type 0
IsInRangeAs Source object = IsSource object
IsInRangeAs Controller object = IsController object
IsInRangeAs Creep object = IsCreep object
IsInRangeAs Spawn object = IsSpawn object
IsInRangeAs Extension object = IsStore Extension object
IsInRangeAs Storage object = IsStore Storage object
IsInRangeAs Container object = IsDecaying Container object
IsInRangeAs Road object = IsDecaying Road object
IsInRangeAs Pile object = IsPile object
IsInRangeAs Site object = IsSite object
IsInRangeAs _ object = ⊥

-- ---- the rules

-- Where a rule is broken: the number is a room's index for rooms and controllers, an id for objects, a player
-- for players, and 0 for counts.
abbrev pub Broken : Rule → ℕ → Listing → Type 0
Broken rules.Counts n listing = (n ≡ 0) × ¬ IsWithinCounts listing
Broken rules.RoomTwice n listing = HasEarlierName (world_listed listing) n
Broken rules.Corner n listing =
    (frame : Frame) × IsRoom (world_listed listing) n frame × HasOpenCorner frame.grounds
Broken rules.Serial n listing =
    (object : Placed) × Stands (world_listed listing) n object × HasNoBirth (world_listed listing) n
Broken rules.IdTwice n listing = 2 ≤ count_by (λ entry. entry.0 == n) (placed listing)
Broken rules.Tile n listing =
    (object : Placed) × (frame : Frame) × Stands (world_listed listing) n object
    × IsRoom (world_listed listing) object.room frame × IsOnWrongTile frame.grounds object.object
Broken rules.Shared n listing =
    (lesser : ℕ) × (one : Placed) × (other : Placed) × (lesser < n) × Stands (world_listed listing) lesser one
    × Stands (world_listed listing) n other × IsInTheWay one other
Broken rules.Owner n listing =
    (object : Placed) × Stands (world_listed listing) n object × HasWrongOwner
    (world_listed listing) object.object
Broken rules.Controllers n listing =
    (one : ℕ) × (other : ℕ) × (first : Placed) × (second : Placed) × (one < other)
    × Stands (world_listed listing) one first × Stands (world_listed listing) other second
    × (first.room ≡ n) × (second.room ≡ n) × (is_controller first.object.kind ≡ true)
    × (is_controller second.object.kind ≡ true)
Broken rules.Range n listing =
    (object : Placed) × Stands (world_listed listing) n object
    × ¬ IsInRangeAs object.object.kind object.object
Broken rules.PlayerTwice n listing = 2 ≤ count_by (λ account. account.player == n) listing.accounts
Broken rules.Sites n listing =
    IsPlayer (world_listed listing) n
    × (most_sites < count_by (λ entry. is_site entry.1.object.kind && (entry.1.object.owner == n))
    (placed listing))

-- the place of a rule in the order of the tests
abbrev pub rule_place : Rule → ℕ
rule_place rules.Counts = 1
rule_place rules.RoomTwice = 2
rule_place rules.Corner = 3
rule_place rules.Serial = 4
rule_place rules.IdTwice = 5
rule_place rules.Tile = 6
rule_place rules.Shared = 7
rule_place rules.Owner = 8
rule_place rules.Controllers = 9
rule_place rules.Range = 10
rule_place rules.PlayerTwice = 11
rule_place rules.Sites = 12

-- No earlier rule is broken anywhere, and this one at no lesser number.
pub record IsFirstBroken (rule : Rule) (n : ℕ) (listing : Listing) : Type 0 where
  pub broken : Broken rule n listing
  pub earlier : (other : Rule) (m : ℕ) → rule_place other < rule_place rule → Broken other m listing → ⊥
  pub least : (m : ℕ) → m < n → Broken rule m listing → ⊥

-- No rule is broken anywhere.
abbrev pub KeepsRules : Listing → Type 0
KeepsRules listing = (rule : Rule) (n : ℕ) → Broken rule n listing → ⊥
