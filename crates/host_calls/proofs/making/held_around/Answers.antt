use Rattle.std.proofs.Common.{◌≡◌, List, [], Option, Some, None, option_map, slice_get, sym, ap, ◌∙◌}
use Rattle.std.specs.Option.{unwrap_or}
use Rattle.room_table.specs.declared.object.Object.{Object}
use Rattle.room_table.specs.declared.standing.Standing.{Standing}
use Rattle.world_rules.specs.World.{shown}
use Rattle.action_checks.specs.Plans.{held_for}
use Rattle.sight_census.specs.declared.told.Told.{Told}
use Rattle.sight_census.specs.Censuses.{Census, told_in}
use Rattle.visible_view.specs.Sights.{SeenRoom}
use Rattle.visible_view.specs.Fields.{objects_at, room_place}
use Rattle.host_calls.specs.Replies.{objects_around}
use Rattle.host_calls.proofs.Planned.{no_room, the_room, told_there}
use Rattle.host_calls.proofs.making.held_around.Goals as goal

pub returns-in_default-place-clause-held : goal.returns-in_default-place-clause-held
returns-in_default-place-clause-held c =
    let sight = c.args.view.now in
    let room = c.in-Some.standing.room in
    let around = ap (λ (p : Option Standing). held_for sight.account.player (objects_around sight (option_map shown p))) c.in-Some.is in
    let none : room_place room sight.rooms ≡ None = sym c.in_default-place.ensures in
    let unseen = c.table-table.ensures.seen ∙ ap (option_map (λ (seen : SeenRoom). objects_at sight room)) (no_room sight room none) in
    let empty : objects_at sight room ≡ [] = sym c.table-table.ensures.objects ∙ ap (λ (found : Option (List Object)). unwrap_or found []) unseen in
    sym (around ∙ ap (held_for sight.account.player) empty)

pub returns-in-Some-room-clause-held : goal.returns-in-Some-room-clause-held
returns-in-Some-room-clause-held c =
    let sight = c.args.view.now in
    let room = c.in-Some.standing.room in
    let place = c.in-Some-place.place in
    let around = ap (λ (p : Option Standing). held_for sight.account.player (objects_around sight (option_map shown p))) c.in-Some.is in
    let there = the_room sight room place (sym c.in-Some-place.ensures) in
    let counted = ap (λ (k : Census). slice_get k.rooms place) c.requires.census ∙ told_there sight room place there.0 there.1 in
    let both : Some c.in-Some-room.told ≡ Some (told_in sight there.0) = c.in-Some-room.ensures.told ∙ counted in
    let told : c.in-Some-room.told ≡ told_in sight there.0 = cc in
    ap (λ (t : Told). t.held) told ∙ ap (λ n. held_for sight.account.player (objects_at sight n)) there.3 ∙ sym around

pub returns-in-None-clause-held : goal.returns-in-None-clause-held
returns-in-None-clause-held c =
    let sight = c.args.view.now in
    let room = c.in-Some.standing.room in
    let place = c.in-Some-place.place in
    let there = the_room sight room place (sym c.in-Some-place.ensures) in
    let counted = ap (λ (k : Census). slice_get k.rooms place) c.requires.census ∙ told_there sight room place there.0 there.1 in
    let both : None ≡ Some (told_in sight there.0) = c.in-None.ensures.told ∙ counted in
    absurd (cc)
