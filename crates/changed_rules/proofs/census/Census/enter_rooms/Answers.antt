use Rattle.std.proofs.Common.{drop}
use Rattle.std.proofs.lemmas.Bool.{MatchBool-at_false, MatchBool-at_true}
use Rattle.changed_rules.specs.inner.Parts.{Enters, IsRefused}
use Rattle.changed_rules.proofs.Apart.{enter_step, few_apart, known_end, place_within, refused_step, room_there}
use Rattle.changed_rules.proofs.Split.{rises, split_to}
use Rattle.changed_rules.proofs.census.Census.enter_rooms.Goals as goal

pub enter_room-requires-clause-few : goal.enter_room-requires-clause-few
enter_room-requires-clause-few c = few_apart c.args.world.now (drop c.loop-place.place-index c.args.places.now) c.loop-place.self c.loop-place.invariant.kept c.loop-place.invariant.is

pub enter_room-requires-clause-place : goal.enter_room-requires-clause-place
enter_room-requires-clause-place c = place_within c.args.world.now.rooms c.args.places.now c.loop-place.place-index c.loop-place-test.true c.requires.rooms

pub returns-then-not-branch : goal.returns-then-not-branch
returns-then-not-branch c =
    let world = c.args.world.now in
    let room = room_there world.rooms c.args.places.now c.loop-place.place-index c.loop-place-test.true c.requires.rooms in
    let refused = MatchBool-at_false (Enters world room.0 c.loop-place.self c.enter_room.new.self) (IsRefused world room.0 c.loop-place.self) c.if-not-branch.true (c.in_ok-enter_room.ensures.answer room.0 room.1) in
    refused_step world c.args.places.now c.loop-place.place-index room.0 c.loop-place.self c.requires.places c.requires.once c.loop-place-test.true room.1 (c.in_ok-enter_room.ensures.rising room.0 room.1) c.loop-place.invariant.is refused

pub loop-place-preserved : goal.loop-place-preserved
loop-place-preserved c =
    let world = c.args.world.now in
    let room = room_there world.rooms c.args.places.now c.loop-place.place-index c.loop-place-test.true c.requires.rooms in
    let enters = MatchBool-at_true (Enters world room.0 c.loop-place.self c.enter_room.new.self) (IsRefused world room.0 c.loop-place.self) c.if-not-branch.false (c.in_ok-enter_room.ensures.answer room.0 room.1) in
    enter_step world c.args.places.now c.loop-place.place-index room.0 c.loop-place.self c.enter_room.new.self c.requires.places c.requires.once c.loop-place-test.true room.1 c.loop-place.invariant enters

pub returns : goal.returns
returns c =
    let world = c.args.world.now in
    let known = known_end world c.args.places.now c.loop-place.place-index c.loop-place.self c.loop-place-test.false c.loop-place.invariant in
    (split_to world known.kept, record { places = c.requires.places; rising = rises world known.kept; counts = known.is })
