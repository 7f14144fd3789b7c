-- The tick of the game, by a book of rules.
use Rattle.std.specs.Prelude.{ℕ, ◌+◌, ◌-◌, ◌/◌, ◌==◌, min, if◌then◌else◌, List, [], ◌∷◌, ◌++◌, map, Option}
use Rattle.std.specs.Prelude.{Some, None, option_map, option_and_then}
use Rattle.std.specs.List.{filter, find, filter_map, flat_map, sum_by}
use Rattle.std.specs.FinMap.{from_entries, entries}
use Rattle.std.specs.Option.{option_to_list}
use Rattle.game_tables.specs.declared.action.Action.{Action}
use Rattle.game_tables.specs.declared.action.Action.TheVariants.{DropLoad, Transfer, Withdraw, Pickup, Heal}
use Rattle.game_tables.specs.declared.action.Action.TheVariants.{RangedHeal, Dismantle, Attack, Harvest}
use Rattle.game_tables.specs.declared.action.Action.TheVariants.{Repair, Build, RangedMassAttack}
use Rattle.game_tables.specs.declared.action.Action.TheVariants.{RangedAttack, Suicide, ClaimController}
use Rattle.game_tables.specs.declared.action.Action.TheVariants.{Upgrade, Reserve, AttackController}
use Rattle.game_tables.specs.declared.action.Action.TheVariants.{CreateSite, RemoveSite, SpawnCreep, Move}
use Rattle.game_tables.specs.Limits.{most_bucket, most_points, unit_instructions}
use Rattle.object_store.specs.declared.account.Account.{Account}
use Rattle.room_table.specs.Tallies.{most_sum}
use Rattle.intent_book.specs.declared.intent.Intent.{Intent}
use Rattle.intent_book.specs.declared.player_run.PlayerRun.{PlayerRun}
use Rattle.world_rules.specs.Drops.{dropped}
use Rattle.world_rules.specs.Loads.{transferred, withdrawn, picked_up}
use Rattle.world_rules.specs.Work.{harvested, repaired, built}
use Rattle.world_rules.specs.Fights.{attacked_by, dismantled, ended, harm_by_parties, healed_by}
use Rattle.world_rules.specs.Fights.{mass_attacked, shot_by, torn_by}
use Rattle.world_rules.specs.Claims.{claimed, controller_attacked, points_gained, reserved, upgraded}
use Rattle.world_rules.specs.Moves.{moved}
use Rattle.world_rules.specs.Sites.{site_made, site_removed}
use Rattle.world_rules.specs.Spawns.{creep_begun}
use Rattle.world_rules.specs.Crossings.{crossed}
use Rattle.world_rules.specs.Upkeep.{steps}
use Rattle.world_rules.specs.World.{World}
use Rattle.world_rules.specs.RoomParts.{RoomPart, part_at, in_room, in_every_room}
use Rattle.world_rules.specs.RuleBook.{Effect, Harm, Sums, Step, RuleBook, changes_to, no_harm}
use Rattle.world_rules.specs.Intents.{all_actions, room_of, those_in, kept, entries_of}

-- the points that a player gained by an entry in a room
pub record Gain : Type 0 where
  pub room : ℕ
  pub player : ℕ
  pub points : ℕ

-- the world in the course of a tick, what was done to the objects of each room so far, and the points that
-- were gained
pub record Course : Type 0 where
  pub world : World
  pub harms : List (ℕ × Harm)
  pub gains : List Gain

abbrev pub begun : World → Course
begun world = record { world = world; harms = []; gains = [] }

-- ---- the entries

-- The room of an entry is that in which its actor stands in the world before the tick.
module _ (book : RuleBook) (before : World) where
  -- what an entry does to the objects of its room; one of another room counts as absent
  abbrev pub harm_of : World → Intent → Option (ℕ × Harm)
  harm_of world entry =
      let read_in : ℕ → Option (ℕ × Harm) = λ room.
      option_map (λ part. (room, book.harm entry part)) (part_at world room) in
      option_and_then read_in (room_of before entry)

  -- what the rule of an entry gives its player
  abbrev pub gain_in : World → Intent → ℕ → List Gain
  gain_in world entry room =
      let gain : RoomPart → Gain = λ part. record {
        room = room;
        player = entry.player;
        points = (book.effect entry part).points;
      } in
      option_to_list (option_map gain (part_at world room))

  -- the course after the rule of an entry, which changes the part of its room alone
  abbrev pub after_rule : Course → Intent → Option ℕ → Course
  after_rule course entry None = course
  after_rule course entry (Some room) = record course {
    world = in_room (λ part. (book.effect entry part).part) room course.world;
    gains = course.gains ++ gain_in course.world entry room;
  }

  abbrev pub after_rules : List Intent → Course → Course
  after_rules [] course = course
  after_rules (entry ∷ later) course = after_rules later (after_rule course entry (room_of before entry))

  -- The entries of a kind: what they do to objects is read in the world before the kind, then their rules
  -- follow one after the other.
  abbrev pub after_kind : List Intent → Course → Course
  after_kind list course =
      after_rules list (record course { harms = course.harms ++ filter_map (harm_of course.world) list })

  abbrev pub after_actions : List Action → List Intent → Course → Course
  after_actions [] list course = course
  after_actions (action ∷ later) list course =
      after_actions later list (after_kind (entries_of action list) course)

-- ---- the sums

-- what a list of ids and numbers has for an id
abbrev pub total_for : List (ℕ × ℕ) → ℕ → ℕ
total_for list id = sum_by (λ entry. if entry.0 == id then entry.1 else 0) list

-- what was done to the objects of a room
abbrev pub harms_in : ℕ → List (ℕ × Harm) → List (ℕ × Harm)
harms_in room harms = filter (λ harm. harm.0 == room) harms

abbrev pub sums_of : List Harm → Sums
sums_of harms = record {
  damage = λ id. min most_sum (total_for (flat_map (λ harm. harm.damage) harms) id);
  healing = λ id. min most_sum (total_for (flat_map (λ harm. harm.healing) harms) id);
}

abbrev pub sums_in : Course → ℕ → Sums
sums_in course room = sums_of (map (λ harm. harm.1) (harms_in room course.harms))

-- ---- the tick

-- steps one after the other, each in every room by its sums
abbrev pub after_steps : (ℕ → Sums) → List Step → World → World
after_steps sums [] world = world
after_steps sums (step ∷ later) world =
    after_steps sums later (in_every_room (λ room. step (sums room)) world)

-- the course after all entries
abbrev pub acted : RuleBook → World → List Intent → Course
acted book world list = after_actions book world all_actions (kept world list) (begun world)

-- the change that the kept moves of a room make
abbrev pub movement : RuleBook → World → List Intent → ℕ → RoomPart → RoomPart
movement book world list room = book.moved (those_in world room (entries_of Move (kept world list)))

-- what happens inside the rooms: the entries, then movement all at once, then upkeep
abbrev pub inner : RuleBook → World → List Intent → Course
inner book world list =
    let after : Course = acted book world list in
    let moved : World = in_every_room (movement book world list) after.world in
    record after { world = after_steps (sums_in after) book.steps moved }

-- the world after a tick: the inside of the rooms, then crossings
abbrev pub ruled : RuleBook → (World → World) → World → List Intent → World
ruled book crossed world list =
    let after : World = crossed (inner book world list).world in record after { tick = after.tick + 1 }

-- the gains in a room
abbrev pub gains_in : ℕ → List Gain → List Gain
gains_in room gains = filter (λ gain. gain.room == room) gains

-- the points of a player among gains
abbrev pub points_of : ℕ → List Gain → ℕ
points_of player gains = sum_by (λ gain. if gain.player == player then gain.points else 0) gains

-- the points that a player gains in a tick
abbrev pub gained : RuleBook → World → List Intent → ℕ → ℕ
gained book world list player = points_of player (inner book world list).gains

-- ---- the rules in force

-- the rule of each action
abbrev pub rule_of : Action → Intent → RoomPart → Effect
rule_of DropLoad entry part = changes_to (dropped entry part)
rule_of Transfer entry part = changes_to (transferred entry part)
rule_of Withdraw entry part = changes_to (withdrawn entry part)
rule_of Pickup entry part = changes_to (picked_up entry part)
rule_of Harvest entry part = changes_to (harvested entry part)
rule_of Repair entry part = changes_to (repaired entry part)
rule_of Build entry part = changes_to (built entry part)
rule_of Dismantle entry part = changes_to (dismantled entry part)
rule_of Suicide entry part = changes_to (ended entry part)
rule_of ClaimController entry part = changes_to (claimed entry part)
rule_of Upgrade entry part = record { part = upgraded entry part; points = points_gained entry part }
rule_of Reserve entry part = changes_to (reserved entry part)
rule_of AttackController entry part = changes_to (controller_attacked entry part)
rule_of CreateSite entry part = changes_to (site_made entry part)
rule_of RemoveSite entry part = changes_to (site_removed entry part)
rule_of SpawnCreep entry part = changes_to (creep_begun entry part)
rule_of action entry part = changes_to part

-- what each action does to objects
abbrev pub harm_by : Action → Intent → RoomPart → Harm
harm_by Heal entry part = harm_by_parties Heal (healed_by 12) entry part
harm_by RangedHeal entry part = harm_by_parties RangedHeal (healed_by 4) entry part
harm_by Dismantle entry part = harm_by_parties Dismantle torn_by entry part
harm_by Attack entry part = harm_by_parties Attack attacked_by entry part
harm_by RangedMassAttack entry part = mass_attacked entry part
harm_by RangedAttack entry part = harm_by_parties RangedAttack shot_by entry part
harm_by action entry part = no_harm

abbrev pub book : RuleBook
book =
    record {
      harm = λ entry. harm_by entry.action entry;
      effect = λ entry. rule_of entry.action entry;
      moved = moved;
      steps = steps;
    }

-- ---- accounts

-- the CPU units in a bucket after a tick in which so many instructions were used: a unit that was begun
-- counts whole
abbrev pub bucket_after : Account → ℕ → ℕ
bucket_after account used =
    min most_bucket (account.limit + account.bucket - (used + (unit_instructions - 1)) / unit_instructions)

-- the points of an account after it gained some
abbrev pub points_after : Account → ℕ → ℕ
points_after account gain = min most_points (account.points + gain)

-- the same account with the points that its player gained
abbrev pub account_raised : ℕ → Account → Account
account_raised gain account = record account { points = points_after account gain }

-- the world after a tick with these entries, with the points that players gained, and with their buckets and
-- memory texts as before
abbrev pub plain_world : World → List Intent → World
plain_world world list =
    let after : World = ruled book crossed world list in
    let next : ℕ × Account → ℕ × Account = λ entry.
    (entry.0, account_raised (gained book world list entry.0) entry.1) in
    record after { accounts = from_entries (map next (entries after.accounts)) }

-- an account after a tick in which its player gained points, without a run of his and with one, which leaves
-- his memory text
abbrev pub account_after : ℕ → Account → Option PlayerRun → Account
account_after gain account None =
    record account { bucket = bucket_after account 0; points = points_after account gain }
account_after gain account (Some run) =
    record account {
      bucket = bucket_after account run.used;
      points = points_after account gain;
      memory = run.memory;
    }

-- the run of a player
abbrev pub run_of : ℕ → List PlayerRun → Option PlayerRun
run_of player runs = find (λ run. run.player == player) runs

-- all that the runs want
abbrev pub intents_of : List PlayerRun → List Intent
intents_of runs = flat_map (λ run. run.intents) runs

-- the world after a tick in which these are the runs
abbrev pub next_world : World → List PlayerRun → World
next_world world runs =
    let list : List Intent = intents_of runs in
    let after : World = ruled book crossed world list in
    let next : ℕ × Account → ℕ × Account = λ entry.
    (entry.0, account_after (gained book world list entry.0) entry.1 (run_of entry.0 runs)) in
    record after { accounts = from_entries (map next (entries after.accounts)) }
