-- Entries of which each does its harm in its own turn.
use Rattle.std.specs.Prelude.{◌≡◌, List, [], ◌∷◌, ◌++◌}
use Rattle.std.specs.List.{AllPairs}
use Rattle.std.specs.Option.{option_to_list}
use Rattle.game_tables.specs.declared.action.Action.{Action}
use Rattle.intent_book.specs.declared.intent.Intent.{Intent}
use Rattle.world_rules.specs.World.{World}
use Rattle.world_rules.specs.RoomParts.{RoomPart}
use Rattle.world_rules.specs.RuleBook.{RuleBook}
use Rattle.world_rules.specs.Intents.{room_of, entries_of}
use Rattle.world_rules.specs.Tick.{Course, harm_of, after_rule}
use Rattle.room_commutes.specs.Serials.{AreOwnSerialsUsed}
use Rattle.room_commutes.specs.Standing.{AreKeyed}

module _ (book : RuleBook) (before : World) where
  -- the course after the entries of a kind, where what each does to objects is read just before its own rule
  abbrev pub running_kind : List Intent → Course → Course
  running_kind [] course = course
  running_kind (entry ∷ later) course =
      let harmed : Course = record course {
        harms = course.harms ++ option_to_list (harm_of book before course.world entry);
      } in
      running_kind later (after_rule book before harmed entry (room_of before entry))

  -- the course after all entries, kind by kind
  abbrev pub running_actions : List Action → List Intent → Course → Course
  running_actions [] list course = course
  running_actions (action ∷ later) list course =
      running_actions later list (running_kind (entries_of action list) course)

-- The rule of an entry leaves what another does to objects as it is, in every room's part whose objects stand
-- under their ids and have used up their serials.
abbrev pub LeavesHarm : RuleBook → Intent → Intent → Type 0
LeavesHarm book one other =
    (part : RoomPart) → AreKeyed part → AreOwnSerialsUsed part
    → book.harm other (book.effect one part).part ≡ book.harm other part

-- The rule of each entry leaves what later ones do to objects.
abbrev pub LeaveHarms : RuleBook → List Intent → Type 0
LeaveHarms book list = AllPairs (LeavesHarm book) list

-- The rules of the book leave objects under their ids.
abbrev pub KeepsKeys : RuleBook → Type 0
KeepsKeys book = (entry : Intent) (part : RoomPart) → AreKeyed part → AreKeyed (book.effect entry part).part
