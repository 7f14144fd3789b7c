-- What the rules of the game say of one room. The frame of a tick stands whatever they are.
use Rattle.std.specs.Prelude.{◌≡◌, ◌⊎◌, ℕ, ◌+◌, ◌*◌, ◌^◌, ◌<◌, ◌≤◌, List, [], Some}
use Rattle.std.specs.List.{AllByRecursion}
use Rattle.std.specs.FinMap.{get}
use Rattle.room_table.specs.declared.object.Object.{Object}
use Rattle.intent_book.specs.declared.intent.Intent.{Intent}
use Rattle.world_rules.specs.RoomParts.{RoomPart}

-- what an entry makes of a room's part, and the points that its player gains
pub record Effect : Type 0 where
  pub part : RoomPart
  pub points : ℕ

-- the damage and the healing that an entry does to objects, by their ids
pub record Harm : Type 0 where
  pub damage : List (ℕ × ℕ)
  pub healing : List (ℕ × ℕ)

-- the effect of an entry that gains no points
abbrev pub changes_to : RoomPart → Effect
changes_to part = record { part = part; points = 0 }

-- of an entry that harms nothing
abbrev pub no_harm : Harm
no_harm = record { damage = []; healing = [] }

-- what the entries of a tick did to an object, by its id
pub record Sums : Type 0 where
  pub damage : ℕ → ℕ
  pub healing : ℕ → ℕ

-- a step of upkeep
abbrev pub Step : Type 0
Step = Sums → RoomPart → RoomPart

-- The rules: what an entry does to objects, read in the part before its kind; what it makes of the part, as
-- the entries before it left it; what the kept moves of a room make of its part, all at once; and the steps
-- of upkeep in their order.
pub record RuleBook : Type 0 where
  pub harm : Intent → RoomPart → Harm
  pub effect : Intent → RoomPart → Effect
  pub moved : List Intent → RoomPart → RoomPart
  pub steps : List Step

-- ---- changes that stay in their room

-- The id stands in the part.
abbrev pub Stands : RoomPart → ℕ → Type 0
Stands part id = (object : Object) × (get part.objects id ≡ Some object)

-- The id is one of the room's own, from its next serial up to one below another.
abbrev pub IsNew : RoomPart → ℕ → ℕ → Type 0
IsNew part next id =
    (serial : ℕ)
    × (id ≡ part.index * 2 ^ 32 + serial)
    × (part.next ≤ serial)
    × (serial < next)
    × (serial < 2 ^ 32)

-- The second part comes of the first: the rules number, the index and the grounds are the same, and no
-- object stands that didn't stand but under new ids of the room, whose serials are used up.
pub record Follows (part after : RoomPart) : Type 0 where
  pub rules : after.rules ≡ part.rules
  pub index : after.index ≡ part.index
  pub grounds : after.grounds ≡ part.grounds
  pub serial : part.next ≤ after.next
  pub own : (id : ℕ) → Stands after id → Stands part id ⊎ IsNew part after.next id

-- A change stays in its room.
abbrev pub StaysInRoom : (RoomPart → RoomPart) → Type 0
StaysInRoom change = (part : RoomPart) → Follows part (change part)

-- All rules of the book stay in their rooms.
pub record IsOrderly (book : RuleBook) : Type 0 where
  pub effect : (entry : Intent) → StaysInRoom (λ part. (book.effect entry part).part)
  pub moved : (list : List Intent) → StaysInRoom (book.moved list)
  pub steps : AllByRecursion (λ step. (sums : Sums) → StaysInRoom (step sums)) book.steps
