-- A call for a claim, a site, a removal or a new creep that is answered 0 fails no check of its rule on the
-- same world.
use Rattle.std.specs.Prelude.{◌≡◌, ℕ, ℤ, pos, Bool, true, Some}
use Rattle.std.specs.FinMap.{values}
use Rattle.game_tables.specs.declared.action.Action.TheVariants.{ClaimController}
use Rattle.object_store.specs.declared.account.Account.{Account}
use Rattle.object_store.specs.Stored.{Stored}
use Rattle.intent_book.specs.declared.intent.Intent.{Intent}
use Rattle.wasm_store.specs.Memory.{Memory}
use Rattle.world_rules.specs.Checks.{all_hold, checks, scene_of, standing_at}
use Rattle.world_rules.specs.Intents.{room_of}
use Rattle.world_rules.specs.RoomParts.{RoomPart, part_at}
use Rattle.world_rules.specs.Sites.{making_checks, removing_checks}
use Rattle.world_rules.specs.Sound.{IsSound}
use Rattle.world_rules.specs.Spawns.{spawn_checks}
use Rattle.world_rules.specs.World.{World, world_of}
use Rattle.visible_view.specs.Sights.{sight_of}
use Rattle.host_calls.specs.Agreement.{IsRecorded}
use Rattle.host_calls.specs.Desks.{Desk}
use Rattle.host_calls.specs.Replies.{Reply, body_in, claim_reply, removal_reply, removal_wish, site_reply}
use Rattle.host_calls.specs.Replies.{site_wish, spawn_reply, spawn_wish, wish_of}

-- ---- what the rules check

abbrev pub may_claim : Intent → RoomPart → Bool
may_claim entry part =
    all_hold
    (checks ClaimController
    (scene_of entry (values part.objects) (standing_at part entry.actor) (standing_at part entry.target)))

abbrev pub may_make : Intent → RoomPart → Bool
may_make entry part = all_hold (making_checks entry part)

abbrev pub may_remove : Intent → RoomPart → Bool
may_remove entry part = all_hold (removing_checks entry part)

abbrev pub may_begin : Intent → RoomPart → Bool
may_begin entry part =
    all_hold
    (spawn_checks entry.player (standing_at part entry.actor) (values part.objects) (Some entry.body))

-- ---- where

-- It holds in the part of the room of the entry.
abbrev pub HoldsIn : (Intent → RoomPart → Bool) → World → Intent → Type 0
HoldsIn holds world entry =
    (room : ℕ) × (part : RoomPart) × (room_of world entry ≡ Some room) × (part_at world room ≡ Some part)
    × (holds entry part ≡ true)

-- At the desk of a player who sees a sound world, a call that is answered 0 records its entry, and the checks
-- of its rule hold in that world.
abbrev pub Agrees : (Intent → RoomPart → Bool) → (ℕ → Intent) → (Desk → Reply) → Type 0
Agrees holds wish reply =
    (stored : Stored) (account : Account) (desk : Desk)
    → IsSound stored → desk.sight ≡ sight_of (world_of stored) account → (reply desk).answer ≡ pos 0
    → IsRecorded desk (wish account.player) (reply desk).desk
    × HoldsIn holds (world_of stored) (wish account.player)

abbrev pub ClaimsAgree : Type 0
ClaimsAgree =
    (memory : Memory) (id target : ℤ)
    → Agrees may_claim
    (λ player. wish_of ClaimController player id target (pos 0))
    (λ desk. claim_reply desk memory id target)

abbrev pub SitesAgree : Type 0
SitesAgree =
    (memory : Memory) (room x y kind : ℤ)
    → Agrees may_make
    (λ player. site_wish player room x y kind) (λ desk. site_reply desk memory room x y kind)

abbrev pub RemovalsAgree : Type 0
RemovalsAgree =
    (memory : Memory) (id : ℤ)
    → Agrees may_remove (λ player. removal_wish player id) (λ desk. removal_reply desk memory id)

abbrev pub SpawnsAgree : Type 0
SpawnsAgree =
    (memory : Memory) (id : ℤ) (at n : ℕ)
    → Agrees may_begin
    (λ player. spawn_wish player id (body_in memory at n))
    (λ desk. spawn_reply desk memory id at n)
