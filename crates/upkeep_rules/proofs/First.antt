-- The piles that the steps may make, and what the table says of its own sums.
use Rattle.std.proofs.Common.{◌≡◌, ℕ, ◌*◌, ◌≤◌, ◌||◌, Bool, true, false, cond, List, [], ◌∷◌, length, refl, arith}
use Rattle.std.specs.List.{filter}
use Rattle.std.proofs.lemmas.List.Sums.{length-filter}
use Rattle.game_tables.specs.Kinds.{is_building, is_creep}
use Rattle.room_table.specs.declared.object.Object.{Object}
use Rattle.room_table.specs.Tables.{Table}
use Rattle.room_table.specs.Tallies.{tally_of}
use Rattle.world_rules.specs.RuleBook.{Sums}
use Rattle.room_rules.specs.Calls.{AreSumsOf, IsReadyFor}
use Rattle.upkeep_rules.specs.Falling.{many_fighters, may_fall}
use Rattle.upkeep_rules.specs.declared.wearing.Wear.TheVariants.{Strike, Unload, Age, Weather}
use Rattle.upkeep_rules.specs.inner.Worn.{budget, may_drop}

-- ---- sums

-- what a table says itself
abbrev pub own_sums : Table → Sums
own_sums table = record { damage = λ id. (tally_of id table.tallies).damage; healing = λ id. (tally_of id table.tallies).healing }

pub own_are : (table : Table) → AreSumsOf (own_sums table) table
own_are table = record { damage = λ id there. refl; healing = λ id there. refl }

-- ---- budgets

pub ready_fewer : (many fewer : ℕ) (table : Table) → fewer ≤ many → IsReadyFor many table → IsReadyFor fewer table
ready_fewer many fewer table less ready = record { spare = omega (arith, ready.spare, less); serial = omega (arith, ready.serial, less); fresh = ready.fresh; tiles = ready.tiles }

pub strike_budget : (table : Table) → budget Strike 0 table ≡ many_fighters table.objects
strike_budget table = let all = length-filter (may_drop Strike) table.objects in omega (arith, all)

pub age_budget : (table : Table) → budget Age 0 table ≡ many_fighters table.objects
age_budget table = let all = length-filter (may_drop Age) table.objects in omega (arith, all)

pub weather_budget : (in_owned : Bool) (table : Table) → budget (Weather in_owned) 0 table ≡ may_fall table.objects
weather_budget in_owned table = let all = length-filter (may_drop (Weather in_owned)) table.objects in omega (arith, all)

few_by : (a b : Bool) (object : Object) (some all : List Object) → length some ≤ length all → length (cond a (object ∷ some) some) ≤ length (cond (a || b) (object ∷ all) all)
few_by true b object some all less = omega (arith, less)
few_by false true object some all less = omega (arith, less)
few_by false false object some all less = less

few_creeps : (objects : List Object) → length (filter (λ (o : Object). is_creep o.kind) objects) ≤ length (filter (λ (o : Object). is_creep o.kind || is_building o.kind) objects)
few_creeps [] = omega arith
few_creeps (object ∷ objects) =
    few_by (is_creep object.kind) (is_building object.kind) object (filter (λ (o : Object). is_creep o.kind) objects) (filter (λ (o : Object). is_creep o.kind || is_building o.kind) objects) (few_creeps objects)

pub unload_budget : (table : Table) → budget Unload 0 table ≤ 2 * many_fighters table.objects
unload_budget table = let all = length-filter (may_drop Unload) table.objects in omega (arith, all, few_creeps table.objects)
