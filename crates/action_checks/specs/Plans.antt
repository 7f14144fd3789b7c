-- What the checks of a new site read, as it is given, and what is held for creeps, as far as it counts.
use Rattle.std.specs.Prelude.{◌≡◌, ℕ, ◌-◌, ◌^◌, min, true, List, Option}
use Rattle.std.specs.Option.{is_some}
use Rattle.game_tables.specs.declared.kind.Kind.{Kind}
use Rattle.room_table.specs.declared.object.Object.{Object}
use Rattle.world_rules.specs.Spawns.{held_by}
use Rattle.world_rules.specs.Sites as sites
use Rattle.world_rules.specs.Sites.{count_of, planned_kind}
use Rattle.action_checks.specs.declared.plans.Plan.{Plan}

abbrev pub plan_view : Plan → sites.Plan
plan_view plan = record {
  player = plan.player;
  x = plan.x;
  y = plan.y;
  number = plan.number;
  grounds = plan.ground.now;
  around = plan.around.now.objects;
  recorded = plan.recorded;
  sites = plan.sites;
}

-- Where a kind is to be built, this is how many of it stand in the room.
abbrev pub IsCountedFor : Option Kind → Plan → Type 0
IsCountedFor kind plan = is_some kind ≡ true → plan.standing ≡ count_of plan.number plan.around.now.objects

abbrev pub IsCounted : Plan → Type 0
IsCounted plan = IsCountedFor (planned_kind (plan_view plan)) plan

-- No creep costs as much as 2^32 - 1.
abbrev pub held_for : ℕ → List Object → ℕ
held_for player objects = min (2 ^ 32 - 1) (held_by player objects)
