use Rattle.std.proofs.Common.{ℕ, List, length, sym, subst}
use Rattle.changed_rules.specs.Census.{KeepsElsewhere, indices}
use Rattle.changed_rules.proofs.Apart.{elsewhere_same}
use Rattle.changed_rules.proofs.Changes.{indices_within}
use Rattle.changed_rules.proofs.Lists.{within_same}
use Rattle.changed_rules.proofs.census.Census.enter.Goals as goal

pub enter_rooms-requires-clause-rest : goal.enter_rooms-requires-clause-rest
enter_rooms-requires-clause-rest c = subst (λ (places : List ℕ). KeepsElsewhere places c.args.world.now) (sym c.deref.ensures.value) (elsewhere_same c.args.world.now c.in_ok-places.places.items (indices c.args.tables.now) c.in_ok-places.ensures.same (c.requires.rest c.if-kept.true))

pub enter_rooms-requires-clause-rooms : goal.enter_rooms-requires-clause-rooms
enter_rooms-requires-clause-rooms c = rw c.deref.ensures.value (within_same (length c.args.world.now.rooms) c.in_ok-places.places.items (indices c.args.tables.now) c.in_ok-places.ensures.same (indices_within (length c.args.world.now.rooms) c.args.tables.now c.requires.rooms))
