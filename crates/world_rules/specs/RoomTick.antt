-- A tick of one room by itself: what happens inside a room, as its part and its entries that count tell.
use Rattle.std.specs.Prelude.{ℕ, ◌/◌, ◌==◌, ◌&&◌, Bool, nat_lt, if◌then◌else◌, List, [], ◌∷◌, ◌++◌, map}
use Rattle.std.specs.List.{filter}
use Rattle.std.specs.FinMap.{get}
use Rattle.game_tables.specs.declared.action.Action.{Action}
use Rattle.game_tables.specs.declared.action.Action.TheVariants.{Move}
use Rattle.intent_book.specs.declared.intent.Intent.{Intent}
use Rattle.world_rules.specs.RoomParts.{RoomPart}
use Rattle.world_rules.specs.RuleBook.{Effect, Harm, Sums, Step, RuleBook}
use Rattle.world_rules.specs.Intents.{all_actions, names_tile, acts_for, last_of_each, undropped, entries_of}
use Rattle.world_rules.specs.Tick.{sums_of}

-- ---- which entries of a room count

-- The entry fits the room: its actor is a tile of the room, or an object of the right kind there that the
-- player owns.
abbrev pub fits_room : RoomPart → Intent → Bool
fits_room part entry =
    nat_lt 0 entry.player
    && (if names_tile entry.action then entry.actor / 2500 == part.index
    else acts_for entry (get part.objects entry.actor))

-- the entries of a room that count
abbrev pub kept_in : RoomPart → List Intent → List Intent
kept_in part list = undropped (last_of_each (filter (fits_room part) list))

-- ---- the course of a room

-- a room's part in the course of a tick, what was done to its objects so far, and the players' points
pub record RoomCourse : Type 0 where
  pub part : RoomPart
  pub harms : List Harm
  pub points : List (ℕ × ℕ)

abbrev pub room_begun : RoomPart → RoomCourse
room_begun part = record { part = part; harms = []; points = [] }

module _ (book : RuleBook) where
  abbrev pub room_after_rule : RoomCourse → Intent → RoomCourse
  room_after_rule course entry =
      let effect : Effect = book.effect entry course.part in
      record course { part = effect.part; points = course.points ++ (entry.player, effect.points) ∷ [] }

  abbrev pub room_after_rules : List Intent → RoomCourse → RoomCourse
  room_after_rules [] course = course
  room_after_rules (entry ∷ later) course = room_after_rules later (room_after_rule course entry)

  abbrev pub room_after_kind : List Intent → RoomCourse → RoomCourse
  room_after_kind list course =
      let harms : List Harm = map (λ entry. book.harm entry course.part) list in
      room_after_rules list (record course { harms = course.harms ++ harms })

  abbrev pub room_after_actions : List Action → List Intent → RoomCourse → RoomCourse
  room_after_actions [] list course = course
  room_after_actions (action ∷ later) list course =
      room_after_actions later list (room_after_kind (entries_of action list) course)

abbrev pub room_after_steps : Sums → List Step → RoomPart → RoomPart
room_after_steps sums [] part = part
room_after_steps sums (step ∷ later) part = room_after_steps sums later (step sums part)

-- what happens inside a room with these entries, which count
abbrev pub room_inner : RuleBook → List Intent → RoomPart → RoomCourse
room_inner book list part =
    let after : RoomCourse = room_after_actions book all_actions list (room_begun part) in
    let moved : RoomPart = book.moved (entries_of Move list) after.part in
    record after { part = room_after_steps (sums_of after.harms) book.steps moved }

-- what happens inside a room, of a list of entries of any rooms
abbrev pub room_tick : RuleBook → List Intent → RoomPart → RoomCourse
room_tick book list part = room_inner book (kept_in part list) part
