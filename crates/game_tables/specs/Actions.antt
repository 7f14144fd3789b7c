-- The actions of players.
use Rattle.std.specs.Prelude.{ℕ, Bool, true, false, Option, Some, None}
use Rattle.game_tables.specs.Kinds.{is_building}
use Rattle.game_tables.specs.declared.action.Action.{Action}
use Rattle.game_tables.specs.declared.action.Action.TheVariants.{DropLoad, Transfer, Withdraw, Pickup, Heal}
use Rattle.game_tables.specs.declared.action.Action.TheVariants.{RangedHeal, Dismantle, Attack, Harvest}
use Rattle.game_tables.specs.declared.action.Action.TheVariants.{Repair, Build, RangedMassAttack}
use Rattle.game_tables.specs.declared.action.Action.TheVariants.{RangedAttack, Suicide, ClaimController}
use Rattle.game_tables.specs.declared.action.Action.TheVariants.{Upgrade, Reserve, AttackController}
use Rattle.game_tables.specs.declared.action.Action.TheVariants.{CreateSite, RemoveSite, SpawnCreep, Move}
use Rattle.game_tables.specs.declared.kind.Kind.{Kind}
use Rattle.game_tables.specs.declared.kind.Kind.TheVariants.{Source, Controller, Creep, Spawn, Extension}
use Rattle.game_tables.specs.declared.kind.Kind.TheVariants.{Storage, Container, Pile, Site}
use Rattle.game_tables.specs.declared.kind.Part.{Part}
use Rattle.game_tables.specs.declared.kind.Part.TheVariants as part

-- the number of an action; a tick applies them in this order
abbrev pub action_number : Action → ℕ
action_number DropLoad = 1
action_number Transfer = 2
action_number Withdraw = 3
action_number Pickup = 4
action_number Heal = 5
action_number RangedHeal = 6
action_number Dismantle = 7
action_number Attack = 8
action_number Harvest = 9
action_number Repair = 10
action_number Build = 11
action_number RangedMassAttack = 12
action_number RangedAttack = 13
action_number Suicide = 14
action_number ClaimController = 15
action_number Upgrade = 16
action_number Reserve = 17
action_number AttackController = 18
action_number CreateSite = 19
action_number RemoveSite = 20
action_number SpawnCreep = 21
action_number Move = 22

-- the part that a creep needs for it
abbrev pub needed_part : Action → Option Part
needed_part Heal = Some part.Heal
needed_part RangedHeal = Some part.Heal
needed_part Dismantle = Some part.Work
needed_part Attack = Some part.Attack
needed_part Harvest = Some part.Work
needed_part Repair = Some part.Work
needed_part Build = Some part.Work
needed_part RangedMassAttack = Some part.RangedAttack
needed_part RangedAttack = Some part.RangedAttack
needed_part ClaimController = Some part.Claim
needed_part Upgrade = Some part.Work
needed_part Reserve = Some part.Claim
needed_part AttackController = Some part.Claim
needed_part Move = Some part.Move
needed_part _ = None

-- the greatest range at which its target may be
abbrev pub max_range : Action → Option ℕ
max_range Transfer = Some 1
max_range Withdraw = Some 1
max_range Pickup = Some 1
max_range Heal = Some 1
max_range RangedHeal = Some 3
max_range Dismantle = Some 1
max_range Attack = Some 1
max_range Harvest = Some 1
max_range Repair = Some 3
max_range Build = Some 3
max_range RangedAttack = Some 3
max_range ClaimController = Some 1
max_range Upgrade = Some 3
max_range Reserve = Some 1
max_range AttackController = Some 1
max_range _ = None

-- whether an object of the kind may be its target, where it isn't the actor
abbrev pub is_target : Action → Kind → Bool
is_target Transfer Creep = true
is_target Transfer Spawn = true
is_target Transfer Extension = true
is_target Transfer Storage = true
is_target Transfer Container = true
is_target Withdraw Spawn = true
is_target Withdraw Extension = true
is_target Withdraw Storage = true
is_target Withdraw Container = true
is_target Pickup Pile = true
is_target Heal Creep = true
is_target RangedHeal Creep = true
is_target Dismantle kind = is_building kind
is_target Attack Creep = true
is_target Attack kind = is_building kind
is_target Harvest Source = true
is_target Repair kind = is_building kind
is_target Build Site = true
is_target RangedAttack Creep = true
is_target RangedAttack kind = is_building kind
is_target ClaimController Controller = true
is_target Upgrade Controller = true
is_target Reserve Controller = true
is_target AttackController Controller = true
is_target _ _ = false

-- what drops a dismantle, a repair, a build and an attack of the same creep
abbrev pub drops_dismantle : Action → Bool
drops_dismantle AttackController = true
drops_dismantle RangedHeal = true
drops_dismantle Heal = true
drops_dismantle _ = false

abbrev pub drops_repair : Action → Bool
drops_repair Dismantle = true
drops_repair by = drops_dismantle by

abbrev pub drops_build : Action → Bool
drops_build Repair = true
drops_build by = drops_repair by

abbrev pub drops_attack : Action → Bool
drops_attack Build = true
drops_attack by = drops_build by

-- whether an entry of the first action drops one of the second by the same creep
abbrev pub dominates : Action → Action → Bool
dominates Heal RangedHeal = true
dominates RangedHeal AttackController = true
dominates Heal AttackController = true
dominates by Dismantle = drops_dismantle by
dominates by Repair = drops_repair by
dominates by Build = drops_build by
dominates by Attack = drops_attack by
dominates Attack Harvest = true
dominates by Harvest = drops_attack by
dominates Build RangedMassAttack = true
dominates Repair RangedMassAttack = true
dominates RangedHeal RangedMassAttack = true
dominates RangedMassAttack RangedAttack = true
dominates Build RangedAttack = true
dominates Repair RangedAttack = true
dominates RangedHeal RangedAttack = true
dominates _ _ = false
