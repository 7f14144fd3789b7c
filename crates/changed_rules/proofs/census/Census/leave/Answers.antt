use Rattle.std.proofs.Common.{List, ℕ, length, subst}
use Rattle.changed_rules.specs.Census.{IsCensusApart, indices}
use Rattle.changed_rules.proofs.Changes.{has_left, indices_within}
use Rattle.changed_rules.proofs.Lists.{within_same}
use Rattle.changed_rules.proofs.census.Census.leave.Goals as goal

pub leave_rooms-requires-clause-rooms : goal.leave_rooms-requires-clause-rooms
leave_rooms-requires-clause-rooms c = rw c.deref.ensures.value (within_same (length c.args.world.now.rooms) c.in_ok-places.places.items (indices c.args.tables.now) c.in_ok-places.ensures.same (indices_within (length c.args.world.now.rooms) c.args.tables.now c.requires.rooms))

pub returns-clause-left : goal.returns-clause-left
returns-clause-left c after changed =
    has_left c.args.tables.now c.in_ok-places.places.items c.args.world.now after c.leave_rooms.new.self c.keep_serials.result c.requires.census.places c.requires.rooms c.requires.census.rising c.requires.rules c.in_ok-places.ensures.same
    (subst (λ (places : List ℕ). IsCensusApart places c.args.world.now c.leave_rooms.new.self) c.deref.ensures.value c.in_ok-leave_rooms.ensures) c.keep_serials.ensures changed
