use Rattle.changed_rules.specs.declared.counted.Counted.TheVariants.{Ids, SiteOwners}
use Rattle.changed_rules.proofs.census.Census.enter_both.Goals as goal

pub enter_objects-requires : goal.enter_objects-requires
enter_objects-requires c = c.requires Ids

pub enter_objects-requires-2 : goal.enter_objects-requires-2
enter_objects-requires-2 c = c.requires SiteOwners
