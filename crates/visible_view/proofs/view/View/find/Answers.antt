use Rattle.std.proofs.Common.{◌≡◌, ◌<◌, ◌≤◌, Some, None, List, option_map, sym, ap, subst, ◌∙◌}
use Rattle.std.specs.Prelude.{slice_get}
use Rattle.std.specs.List.Sorted.{IsPartitionPoint}
use Rattle.world_rules.specs.World.{Placed, shown}
use Rattle.visible_view.specs.Sights.{Sight}
use Rattle.visible_view.specs.Fields.{place_of}
use Rattle.visible_view.specs.inner.Places.{all_of, id_at}
use Rattle.visible_view.proofs.Places.{find_missed, find_read, id_if}
use Rattle.visible_view.proofs.view.View.find.Goals as goal

none_some : {X : Type 0} {x : X} → None ≡ Some x → ⊥
none_some e = cc

pub returns-in-Some : goal.returns-in-Some
returns-in-Some c =
    let index = c.position_of-index.result in
    let objects = ap (λ (s : Sight). s.objects) c.self.view_is in
    let read = ap (λ (ps : List Placed). slice_get ps index) objects ∙ sym c.in-Some.ensures in
    find_read (all_of c.self.inside.listed) c.self.inside.places.items c.self.invariant.below c.self.invariant.ids c.args.id index (shown c.in-Some.standing) read c.if-standing-id.true
    ∙ ap (place_of c.args.id) objects

pub returns-in_default : goal.returns-in_default
returns-in_default c =
    let index = c.position_of-index.result in
    let all = all_of c.self.inside.listed in
    let objects = ap (λ (s : Sight). s.objects) c.self.view_is in
    let point = subst (λ (ps : List Placed). IsPartitionPoint (λ place. id_at ps place < c.args.id) (λ place. c.args.id ≤ id_at ps place) c.deref.result.now index) c.list.ensures.all c.position_of-index.ensures.between in
    let read = ap (λ (ps : List Placed). slice_get ps index) objects ∙ sym c.in-Some.ensures in
    find_missed all c.self.inside.places.items c.self.invariant.below c.self.invariant.ids c.args.id c.deref.result.now c.deref.ensures.value index c.position_of-index.ensures.within point
    (λ placed is here. let same : Some placed ≡ Some (shown c.in-Some.standing) = sym is ∙ read in c.if-standing-id.false (sym (ap id_if same) ∙ here))
    ∙ ap (place_of c.args.id) objects

pub returns-in_default-2 : goal.returns-in_default-2
returns-in_default-2 c =
    let index = c.position_of-index.result in
    let all = all_of c.self.inside.listed in
    let objects = ap (λ (s : Sight). s.objects) c.self.view_is in
    let point = subst (λ (ps : List Placed). IsPartitionPoint (λ place. id_at ps place < c.args.id) (λ place. c.args.id ≤ id_at ps place) c.deref.result.now index) c.list.ensures.all c.position_of-index.ensures.between in
    find_missed all c.self.inside.places.items c.self.invariant.below c.self.invariant.ids c.args.id c.deref.result.now c.deref.ensures.value index c.position_of-index.ensures.within point
    (λ placed is here. none_some (sym (ap (option_map shown) c.in_default.is) ∙ c.standing.ensures ∙ sym (ap (λ (ps : List Placed). slice_get ps index) objects) ∙ is))
    ∙ ap (place_of c.args.id) objects
