use Rattle.std.proofs.Common.{List, length, option_and_then, option_map, refl, sym, ap, ◌∙◌}
use Rattle.std.specs.Prelude.{slice_get}
use Rattle.std.proofs.lemmas.Bool.{ltb-false, ltb-true}
use Rattle.std.proofs.lemmas.Option.{slice_get_past, slice_get_read}
use Rattle.world_rules.specs.World.{Placed, shown}
use Rattle.visible_view.specs.Sights.{Sight}
use Rattle.visible_view.specs.inner.Places.{all_of}
use Rattle.visible_view.proofs.Places.{at_index}
use Rattle.visible_view.proofs.view.View.standing.Goals as goal

pub returns-in_err-place : goal.returns-in_err-place
returns-in_err-place c =
    let all = all_of c.self.inside.listed in
    let places = c.self.inside.places.items in
    let past = slice_get_past c.deref.result.now c.args.index (ltb-false _ _ (sym c.in_err-place.ensures.lookup.0)) in
    ap (option_map shown) c.from_residual.ensures
    ∙ sym (ap (λ (s : Sight). slice_get s.objects c.args.index) (sym c.self.view_is)
    ∙ at_index all places c.self.invariant.below c.args.index
    ∙ ap (λ ps. option_and_then (slice_get all) (slice_get ps c.args.index)) (sym c.deref.ensures.value)
    ∙ ap (option_and_then (slice_get all)) past)

pub returns : goal.returns
returns c =
    let all = all_of c.self.inside.listed in
    let places = c.self.inside.places.items in
    let listed = c.deref.result.now in
    let place = c.in_ok-place.field-0.now in
    let read = slice_get_read listed (length listed) c.args.index place refl (ltb-true _ _ (sym c.in_ok-place.ensures.lookup.0)) c.in_ok-place.ensures.lookup.1 in
    c.standing_at.ensures
    ∙ ap (λ (ps : List Placed). slice_get ps place) c.list.ensures.all
    ∙ sym (ap (λ (s : Sight). slice_get s.objects c.args.index) (sym c.self.view_is)
    ∙ at_index all places c.self.invariant.below c.args.index
    ∙ ap (λ ps. option_and_then (slice_get all) (slice_get ps c.args.index)) (sym c.deref.ensures.value)
    ∙ ap (option_and_then (slice_get all)) read)
