use Rattle.std.proofs.Common.{◌≡◌, ◌<◌, ◌≤◌, true, option_copied, sym, ap, ◌∙◌, arith}
use Rattle.world_rules.specs.Spawns.{held_by}
use Rattle.upkeep_rules.specs.inner.Filled.{has_room}
use Rattle.upkeep_rules.proofs.Gains.{filled_held, filled_more, filled_other, found_here, known_raised, more_on_tile}
use Rattle.upkeep_rules.proofs.filling.fill_at.Goals as goal

pub returns-then-not-has_room-clause-filled : goal.returns-then-not-has_room-clause-filled
returns-then-not-has_room-clause-filled c =
    let at = sym c.nth.ensures ∙ ap option_copied c.in-Some.is in
    filled_other c.args.place c.args.room.now c.in-Some.object.now at c.stands_in_order.ensures.rising c.requires.tiles (sym c.has_room.ensures ∙ c.if-not-has_room.true)

pub returns-then-held-ge-SPAWN_CAPACITY-clause-filled : goal.returns-then-held-ge-SPAWN_CAPACITY-clause-filled
returns-then-held-ge-SPAWN_CAPACITY-clause-filled c =
    let at = sym c.nth.ensures ∙ ap option_copied c.in-Some.is in
    let has : has_room c.in-Some.object.now.kind c.in-Some.object.now.energy ≡ true = sym c.has_room.ensures ∙ c.if-not-has_room.false in
    let full : 300 ≤ held_by c.in-Some.object.now.owner c.args.room.now.objects = omega (arith, c.held_for-held.ensures.held, c.if-held-ge-SPAWN_CAPACITY.true) in
    filled_held c.args.place c.args.room.now c.in-Some.object.now at c.stands_in_order.ensures.rising c.requires.tiles full has

pub set-requires-clause-tile : goal.set-requires-clause-tile
set-requires-clause-tile c =
    let at = sym c.nth.ensures ∙ ap option_copied c.in-Some.is in
    more_on_tile c.args.place c.args.room.now c.in-Some.object.now at c.stands_in_order.ensures.rising c.requires.tiles

pub set-requires-clause-there : goal.set-requires-clause-there
set-requires-clause-there c =
    let at = sym c.nth.ensures ∙ ap option_copied c.in-Some.is in
    (c.in-Some.object.now, found_here c.args.place c.args.room.now c.in-Some.object.now at c.stands_in_order.ensures.rising c.requires.tiles)

pub returns-clause-known : goal.returns-clause-known
returns-clause-known c =
    let at = sym c.nth.ensures ∙ ap option_copied c.in-Some.is in
    let has : has_room c.in-Some.object.now.kind c.in-Some.object.now.energy ≡ true = sym c.has_room.ensures ∙ c.if-not-has_room.false in
    known_raised c.args.place c.args.room.now c.in-Some.object.now at c.stands_in_order.ensures.rising c.requires.tiles has c.held_for-held.result.owner c.held_for-held.result.energy c.held_for-held.ensures.owner (omega (arith, c.if-held-ge-SPAWN_CAPACITY.false)) c.held_for-held.ensures.held c.set.new.self c.set.ensures

pub returns-clause-filled : goal.returns-clause-filled
returns-clause-filled c =
    let at = sym c.nth.ensures ∙ ap option_copied c.in-Some.is in
    let has : has_room c.in-Some.object.now.kind c.in-Some.object.now.energy ≡ true = sym c.has_room.ensures ∙ c.if-not-has_room.false in
    let few : held_by c.in-Some.object.now.owner c.args.room.now.objects < 300 = omega (arith, c.held_for-held.ensures.held, c.if-held-ge-SPAWN_CAPACITY.false) in
    filled_more c.args.place c.args.room.now c.in-Some.object.now at c.stands_in_order.ensures.rising c.requires.tiles has few c.set.new.self c.set.ensures
