use Rattle.std.proofs.Common.{ap, ◌∙◌}
use Rattle.std.proofs.lemmas.Bool.{both_ways}
use Rattle.std.proofs.lemmas.List.{get_or_default}
use Rattle.std.specs.Option.{is_some}
use Rattle.visible_view.specs.Sights.{SeenRoom, Sight}
use Rattle.visible_view.specs.inner.Gathered.{shown_room, index_in}
use Rattle.visible_view.proofs.Told.{place_found, place_missing}
use Rattle.visible_view.proofs.view.View.place.Goals as goal

pub returns-in-Some : goal.returns-in-Some
returns-in-Some c =
    let view = c.args.self.now in
    let listed = c.deref-2 in
    place_found (λ (r : SeenRoom). r.index) shown_room c.args.room c.self.inside.rooms.items view.rooms (ap (λ (s : Sight). s.rooms) c.self.view_is) c.self.invariant.rising c.room_place-place.result listed.result.now listed.ensures.value c.in-Some.seen.now c.in-Some.ensures.lookup.0 c.in-Some.ensures.lookup.1 c.if-seen-room.true

pub returns-in_default : goal.returns-in_default
returns-in_default c =
    let view = c.args.self.now in
    let seen = c.deref in
    let listed = c.deref-2 in
    let place = c.room_place-place in
    place_missing (λ (r : SeenRoom). r.index) shown_room c.args.room c.self.inside.rooms.items view.rooms (ap (λ (s : Sight). s.rooms) c.self.view_is) c.self.invariant.rising place.result listed.result.now listed.ensures.value seen.result.now seen.ensures.value place.ensures.within place.ensures.between
    (λ d within here. c.if-seen-room.false (ap index_in (c.in-Some.ensures.lookup.1 ∙ get_or_default listed.result.now place.result c.in-Some.seen.now d within) ∙ here))

pub returns-in_default-2 : goal.returns-in_default-2
returns-in_default-2 c =
    let view = c.args.self.now in
    let seen = c.deref in
    let listed = c.deref-2 in
    let place = c.room_place-place in
    place_missing (λ (r : SeenRoom). r.index) shown_room c.args.room c.self.inside.rooms.items view.rooms (ap (λ (s : Sight). s.rooms) c.self.view_is) c.self.invariant.rising place.result listed.result.now listed.ensures.value seen.result.now seen.ensures.value place.ensures.within place.ensures.between
    (λ d within here. both_ways (is_some c.get.result) (ap is_some c.in_default.is) (c.get.ensures.lookup.2 within))
