-- What creeps do to controllers, and what time does to them.
use Rattle.std.specs.Prelude.{ℕ, ◌+◌, ◌-◌, ◌*◌, ◌/◌, ◌==◌, min, max, nat_lt, nat_le, if◌then◌else◌, Option}
use Rattle.std.specs.Prelude.{Some, None}
use Rattle.std.specs.Option.{unwrap_or}
use Rattle.game_tables.specs.Bodies.{live_count}
use Rattle.game_tables.specs.Fields.{most_other_ticks}
use Rattle.game_tables.specs.Levels.{downgrade_number, last_level, total_for_next}
use Rattle.game_tables.specs.declared.action.Action.TheVariants.{ClaimController, Upgrade, Reserve}
use Rattle.game_tables.specs.declared.action.Action.TheVariants.{AttackController}
use Rattle.game_tables.specs.declared.kind.Kind.{Kind}
use Rattle.game_tables.specs.declared.kind.Kind.TheVariants.{Controller}
use Rattle.game_tables.specs.declared.kind.Part.TheVariants as part_kinds
use Rattle.room_table.specs.Tallies.{sum_with}
use Rattle.room_table.specs.declared.object.Object.{Object}
use Rattle.intent_book.specs.declared.intent.Intent.{Intent}
use Rattle.world_rules.specs.RoomParts.{RoomPart}
use Rattle.world_rules.specs.Changes.{with_object}
use Rattle.world_rules.specs.Checks.{by_parties, parties}
use Rattle.world_rules.specs.Loads.{with_less}
use Rattle.world_rules.specs.Steps.{each}
use Rattle.world_rules.specs.Work.{live_work}

-- the CLAIM parts of a creep that are live
abbrev pub live_claim : Object → ℕ
live_claim creep = live_count part_kinds.Claim creep.hits creep.body

-- the ticks for which a controller keeps a level, where nobody upgrades it
abbrev pub full_time : ℕ → ℕ
full_time level = unwrap_or (downgrade_number level) 0

-- ---- claiming

-- A controller that a player claimed: of the first level, with all its time, and not reserved any more.
abbrev pub claimed_for : ℕ → Object → Object
claimed_for player controller = record controller {
  owner = player;
  extra = 1;
  progress = 0;
  timer = full_time 1;
  other = 0;
  other_ticks = 0;
}

abbrev pub claimed_by : ℕ → Object → Object → RoomPart → RoomPart
claimed_by player creep controller part = with_object (claimed_for player controller) part

abbrev pub claimed : Intent → RoomPart → RoomPart
claimed entry = by_parties ClaimController (claimed_by entry.player) entry

-- ---- reserving

-- the ticks that a reservation has: a new one begins with 1, and each live CLAIM part adds 1
abbrev pub ticks_reserved : Object → Object → ℕ
ticks_reserved creep controller =
    let before : ℕ = if controller.other == 0 then 1 else controller.other_ticks in
    min (most_other_ticks Controller) (before + live_claim creep)

abbrev pub reserved_by : ℕ → Object → Object → RoomPart → RoomPart
reserved_by player creep controller part =
    with_object
    (record controller { other = player; other_ticks = ticks_reserved creep controller }) part

abbrev pub reserved : Intent → RoomPart → RoomPart
reserved entry = by_parties Reserve (reserved_by entry.player) entry

-- ---- attacking

-- Each live CLAIM part takes 300 ticks of the time of a controller that has an owner, and else 1 of its
-- reservation. One tick is left.
abbrev pub controller_hurt : Object → Object → Object
controller_hurt creep controller =
    if controller.owner == 0
    then record controller { other_ticks = max 1 (controller.other_ticks - live_claim creep) }
    else record controller { timer = max 1 (controller.timer - 300 * live_claim creep) }

abbrev pub hurt_by : Object → Object → RoomPart → RoomPart
hurt_by creep controller part = with_object (controller_hurt creep controller) part

abbrev pub controller_attacked : Intent → RoomPart → RoomPart
controller_attacked entry = by_parties AttackController hurt_by entry

-- ---- upgrading

-- the most that all creeps of a tick put into a controller of the last level
abbrev pub most_at_last : ℕ
most_at_last = 15

-- What a creep puts into a controller: 1 for each live WORK part, as far as it carries them. One of the last
-- level takes no more than is left of what it takes in a tick.
abbrev pub work_taken : Object → Object → ℕ
work_taken creep controller =
    let most : ℕ = min (live_work creep) creep.energy in
    if controller.extra == last_level then min most (most_at_last - controller.other_ticks) else most

-- The controller rises by a level, and what it has above the total stays. At the last level nothing does. Its
-- time is half of what the new level has.
abbrev pub risen : ℕ → Object → Object
risen total controller =
    let level : ℕ = controller.extra + 1 in
    record controller {
      extra = level;
      progress = if level == last_level then 0 else controller.progress - total;
      timer = full_time level / 2;
    }

-- Its time rises by 100 ticks, up to what the level has, where something was put into it.
abbrev pub refreshed : ℕ → Object → Object
refreshed amount controller =
    if amount == 0 then controller
    else record controller { timer = min (full_time controller.extra) (controller.timer + 100) }

-- An amount goes into progress, where there is a next level, which is reached at this total.
abbrev pub progressed : Option ℕ → ℕ → Object → Object
progressed None amount controller = refreshed amount controller
progressed (Some total) amount controller =
    let more : Object = record controller { progress = controller.progress + amount } in
    if nat_le total more.progress then risen total more else refreshed amount more

-- A controller keeps beside what was put into it in a tick.
abbrev pub worked_on : ℕ → Object → Object
worked_on amount controller =
    progressed (total_for_next controller.extra) amount
    (record controller { other_ticks = sum_with amount controller.other_ticks })

abbrev pub upgraded_by : Object → Object → RoomPart → RoomPart
upgraded_by creep controller part =
    let amount : ℕ = work_taken creep controller in
    with_object (worked_on amount controller) (with_object (with_less amount creep) part)

abbrev pub upgraded : Intent → RoomPart → RoomPart
upgraded entry = by_parties Upgrade upgraded_by entry

-- the points that it gives: as many as were put into the controller
abbrev pub points_between : Option (Object × Object) → ℕ
points_between None = 0
points_between (Some found) = work_taken found.0 found.1

abbrev pub points_gained : Intent → RoomPart → ℕ
points_gained entry part = points_between (parties Upgrade entry part)

-- ---- time

-- A controller loses a level, and with it all progress. Its time is half of what the level below has, and at
-- level 0 it is nobody's.
abbrev pub downgraded : Object → Object
downgraded controller =
    let level : ℕ = controller.extra - 1 in
    record controller {
      extra = level;
      owner = if level == 0 then 0 else controller.owner;
      progress = 0;
      timer = full_time level / 2;
    }

-- The time of a level runs, and what was put into the controller in the tick is forgotten.
abbrev pub owned_aged : Object → Object
owned_aged controller =
    let rested : Object = record controller { other_ticks = 0 } in
    if nat_lt 1 controller.timer then record rested { timer = controller.timer - 1 } else downgraded rested

-- The ticks of a reservation run, and at 0 it is gone.
abbrev pub reservation_aged : Object → Object
reservation_aged controller =
    if nat_lt 1 controller.other_ticks then record controller { other_ticks = controller.other_ticks - 1 }
    else record controller { other = 0; other_ticks = 0 }

abbrev pub controller_aged_as : Kind → Object → Object
controller_aged_as Controller controller =
    if controller.extra == 0 then reservation_aged controller else owned_aged controller
controller_aged_as kind object = object

-- Controllers lose time.
abbrev pub controllers_aged : RoomPart → RoomPart
controllers_aged part = each (λ object. Some (controller_aged_as object.kind object)) part
