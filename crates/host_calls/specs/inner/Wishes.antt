-- What private functions answer. For private clauses.
use Rattle.std.specs.Prelude.{◌≡◌, ℤ, Option, Some, None}
use Rattle.game_tables.specs.Codes.{code_number}
use Rattle.room_terrain.specs.declared.name.RoomName.{RoomName}
use Rattle.game_tables.specs.declared.code.Code.{Code}
use Rattle.game_tables.specs.declared.code.Code.TheVariants.{Done, InvalidArgs}
use Rattle.intent_book.specs.Records.{put_last}
use Rattle.intent_book.specs.declared.intent.Intent.{Intent}
use Rattle.host_calls.specs.Desks.{Desk}
use Rattle.action_checks.specs.Plans.{plan_view, IsCounted}
use Rattle.action_checks.specs.declared.plans.Plan.{Plan}
use Rattle.visible_view.specs.Sights.{SeenRoom}
use Rattle.host_calls.specs.Replies.{name_number, plan_seen}

-- the number of a room's name, where there is one
abbrev pub named : Option RoomName → ℤ
named (Some name) = name_number name
named None = code_number InvalidArgs

-- This is what the checks of a site read, where its room is seen.
abbrev pub IsPlanIn : Desk → Intent → ℤ → ℤ → Option SeenRoom → Option Plan → Type 0
IsPlanIn desk wish x y None found = found ≡ None
IsPlanIn desk wish x y (Some room) found =
    (plan : Plan) × (found ≡ Some plan) × (plan_view plan ≡ plan_seen desk wish x y room) × IsCounted plan

-- the desk after a call that wants something and is answered a code
abbrev pub recorded : Desk → Intent → Code → Desk
recorded desk intent Done =
    record desk { book = record desk.book { entries = put_last desk.book.entries intent } }
recorded desk intent code = desk
