-- Worked examples of loads, work, fatigue and decay, which the check computes.
use Rattle.std.specs.Prelude.{◌≡◌, ℕ, ◌*◌, Bool, List, [], replicate, Some, None}
use Rattle.game_tables.specs.declared.kind.Kind.{Kind}
use Rattle.game_tables.specs.declared.kind.Kind.TheVariants as kinds
use Rattle.game_tables.specs.declared.kind.Part.{Part}
use Rattle.room_table.specs.declared.object.Object.{Object}
use Rattle.world_rules.specs.RoomParts.{RoomPart}
use Rattle.world_rules.specs.Loads.{handed}
use Rattle.world_rules.specs.Moves.{weight}
use Rattle.world_rules.specs.Upkeep.{recovered_as, weathered}
use Rattle.world_rules.specs.Work.{building_on, dug, hits_gained, work_put}
use Rattle.world_rules.specs.FightExamples.{fighter}
use Rattle.world_rules.specs.ClaimExamples.{owned}

-- a creep of player 1 with these parts, hits and load
abbrev pub carrier : List Part → ℕ → ℕ → Object
carrier body hits load = record (fighter 1 kinds.Creep 1 20 hits body) { energy = load }

-- one with so many parts of a kind, all live, and this load
abbrev pub made_of : Part → ℕ → ℕ → Object
made_of part many load = carrier (replicate many part) (100 * many) load

-- an object of player 1 of this kind with this energy
abbrev pub store : Kind → ℕ → Object
store kind energy = record (fighter 2 kind 1 21 0 []) { energy = energy }

-- In a room of this level so much goes from the one to the other, where so much is wanted.
abbrev pub Hands : ℕ → ℕ → Object → Object → ℕ → Type 0
Hands level wanted giver taker amount = handed wanted (Some (owned level 0 0 0)) giver taker ≡ amount

-- In a room without a controller.
abbrev pub HandsThere : ℕ → Object → Object → ℕ → Type 0
HandsThere wanted giver taker amount = handed wanted None giver taker ≡ amount

-- So much leaves a source with so much.
abbrev pub Digs : Object → ℕ → ℕ → Type 0
Digs creep energy amount = dug creep (store kinds.Source energy) ≡ amount

-- A building of this kind with these hits gains so many.
abbrev pub Gains : Object → Kind → ℕ → ℕ → Type 0
Gains creep kind hits gain = hits_gained creep (fighter 2 kind 1 21 hits []) ≡ gain

-- The creep puts so much into a site of this kind that has come so far.
abbrev pub Puts : Object → Kind → ℕ → ℕ → Type 0
Puts creep kind progress work =
    work_put kind creep (record (fighter 2 kinds.Site 1 21 0 []) { progress = progress }) ≡ work

-- In any room a site of player 1 becomes this building, with an owner and with these hits.
abbrev pub BecomesOf : Kind → ℕ → ℕ → Type 0
BecomesOf kind owner hits =
    (part : RoomPart)
    → (building_on kind part (fighter 9 kinds.Site 1 21 0 []) 7).owner ≡ owner
    × ((building_on kind part (fighter 9 kinds.Site 1 21 0 []) 7).hits ≡ hits)
    × ((building_on kind part (fighter 9 kinds.Site 1 21 0 []) 7).id ≡ 7)
    × ((building_on kind part (fighter 9 kinds.Site 1 21 0 []) 7).energy ≡ 0)

-- A creep of these parts with this load weighs so much.
abbrev pub Weighs : List Part → ℕ → ℕ → Type 0
Weighs body load weight_then = weight (carrier body 100 load) ≡ weight_then

-- After a tick a creep of these parts with these hits is so tired.
abbrev pub Recovers : List Part → ℕ → ℕ → ℕ → Type 0
Recovers body hits tired tired_then =
    (recovered_as kinds.Creep (record (carrier body hits 0) { extra = tired })).extra ≡ tired_then

-- A building of this kind with these hits and this timer has those after a tick, in a room whose controller
-- somebody owns or not.
abbrev pub Weathers : Bool → Kind → ℕ → ℕ → ℕ → ℕ → Type 0
Weathers in_owned kind hits timer hits_then timer_then =
    weathered in_owned (record (fighter 2 kind 0 21 hits []) { timer = timer })
    ≡ record (fighter 2 kind 0 21 hits_then []) { timer = timer_then }
