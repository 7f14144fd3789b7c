-- A world with its census.
use Rattle.object_store.specs.Stored.{Stored}
use Rattle.rule_check.specs.Kept.{KeepsObjectRules}
use Rattle.changed_rules.specs.Census.{IsCensus}
use Rattle.changed_rules.specs.declared.census.Census.{Census}

-- The world keeps the rules of objects, and the census is its own.
pub record IsCounted (world : Stored) (census : Census) : Type 0 where
  pub rules : KeepsObjectRules world
  pub census_is : IsCensus world census
