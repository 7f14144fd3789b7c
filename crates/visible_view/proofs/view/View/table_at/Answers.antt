use Rattle.std.proofs.Common.{◌≡◌, length, Some, option_map, refl, sym, ap, ◌∙◌}
use Rattle.std.specs.Prelude.{slice_get}
use Rattle.std.proofs.lemmas.Bool.{ltb-true}
use Rattle.std.proofs.lemmas.Option.{slice_get-map, slice_get_read}
use Rattle.visible_view.specs.Sights.{SeenRoom, Sight}
use Rattle.visible_view.specs.Fields.{objects_at}
use Rattle.visible_view.specs.inner.Gathered.{shown_room}
use Rattle.visible_view.specs.inner.Places.{all_of, at_places}
use Rattle.visible_view.proofs.Told.{kept_told}
use Rattle.visible_view.proofs.view.View.table_at.Goals as goal

pub returns : goal.returns
returns c =
    let view = c.args.self.now in
    let place = c.args.place in
    let rooms = c.self.inside.rooms.items in
    let room = c.in_ok-get.field-0.now in
    let listed = c.deref.result.now in
    let is : slice_get rooms place ≡ Some room = ap (λ xs. slice_get xs place) (sym c.deref.ensures.value) ∙ slice_get_read listed (length listed) place room refl (ltb-true _ _ (sym c.in_ok-get.ensures.lookup.0)) c.in_ok-get.ensures.lookup.1 in
    let read : slice_get view.rooms place ≡ Some (shown_room room) = ap (λ (s : Sight). slice_get s.rooms place) (sym c.self.view_is) ∙ slice_get-map shown_room rooms place ∙ ap (option_map shown_room) is in
    let same = kept_told rooms (at_places (all_of c.self.inside.listed) c.self.inside.places.items) view c.self.invariant.rising c.self.invariant.tables (ap (λ (s : Sight). s.objects) c.self.view_is) place room is in
    ap Some (sym same) ∙ sym (ap (option_map (λ (seen : SeenRoom). objects_at view seen.index)) read)
