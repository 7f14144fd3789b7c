-- A call of an action that is answered 0 fails no check of the action's rule on the same world.
use Rattle.std.specs.Prelude.{◌≡◌, ℕ, ℤ, pos, true, Some}
use Rattle.std.specs.FinMap.{values}
use Rattle.game_tables.specs.declared.action.Action.{Action}
use Rattle.object_store.specs.declared.account.Account.{Account}
use Rattle.object_store.specs.Stored.{Stored}
use Rattle.intent_book.specs.Records.{put_last}
use Rattle.intent_book.specs.declared.intent.Intent.{Intent}
use Rattle.wasm_store.specs.Memory.{Memory}
use Rattle.world_rules.specs.World.{World, world_of}
use Rattle.world_rules.specs.RoomParts.{RoomPart, part_at}
use Rattle.world_rules.specs.Intents.{room_at}
use Rattle.world_rules.specs.Checks.{all_hold, checks, scene_of, standing_at}
use Rattle.world_rules.specs.Sound.{IsSound}
use Rattle.visible_view.specs.Sights.{sight_of}
use Rattle.host_calls.specs.Desks.{Desk}
use Rattle.host_calls.specs.Replies.{act_reply, wish_of}

-- All checks of the entry's action hold in a room's part, of the actor, the target and all else as they stand
-- there.
abbrev pub PassesIn : RoomPart → Intent → Type 0
PassesIn part entry =
    all_hold
    (checks entry.action
    (scene_of entry (values part.objects) (standing_at part entry.actor) (standing_at part entry.target)))
    ≡ true

-- They hold in the part of the room in which the actor stands.
abbrev pub Passes : World → Intent → Type 0
Passes world entry =
    (room : ℕ) × (part : RoomPart) × (room_at world entry.actor ≡ Some room)
    × (part_at world room ≡ Some part) × PassesIn part entry

-- The desk after the call is that before it with the entry recorded.
abbrev pub IsRecorded : Desk → Intent → Desk → Type 0
IsRecorded desk entry after =
    after ≡ record desk { book = record desk.book { entries = put_last desk.book.entries entry } }

-- What is wanted by such a call, at the desk of a player who sees a sound world, is recorded, and passes the
-- checks of its rule in that world.
abbrev pub CallsAgree : Type 0
CallsAgree =
    (stored : Stored) (account : Account) (desk : Desk) (memory : Memory)
    (action : Action) (id target amount : ℤ)
    → IsSound stored → desk.sight ≡ sight_of (world_of stored) account
    → (act_reply action desk memory id target amount).answer ≡ pos 0
    → (IsRecorded desk (wish_of action account.player id target amount)
    (act_reply action desk memory id target amount).desk)
    × Passes (world_of stored) (wish_of action account.player id target amount)
