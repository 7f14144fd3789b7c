use Rattle.std.proofs.Common.{Some, sym, ap, ◌∙◌, refl}
use Rattle.std.proofs.lemmas.Bool.{both_ways, ltb-true}
use Rattle.std.proofs.lemmas.List.{get_or_default}
use Rattle.std.specs.Option.{is_some}
use Rattle.room_table.proofs.Rising.{find-at, absent_there}
use Rattle.visible_view.specs.inner.Gathered.{index_in}
use Rattle.visible_view.proofs.view.room_of.Goals as goal
use Rattle.visible_view.proofs.view.room_of.Goals.{in_default-via-in-Some+else-room-index, in_default-via-in_default}

pub returns-in-Some : goal.returns-in-Some
returns-in-Some c =
    let rooms = c.args.rooms.now in
    let place = c.room_place.result in
    let found = c.in-Some.room.now in
    let read = c.in-Some.ensures.lookup.1 in
    ap Some read ∙ sym (find-at index_in c.args.index rooms place found c.requires (ltb-true _ _ (sym c.in-Some.ensures.lookup.0)) (ap index_in (sym read) ∙ c.if-room-index.true))

pub returns-in_default : goal.returns-in_default
returns-in_default c =
    let rooms = c.args.rooms.now in
    let place = c.room_place.result in
    let absent = absent_there index_in c.args.index rooms rooms place refl c.requires c.room_place.ensures.within c.room_place.ensures.between in
    elim c.in_default.branch [
      | in_default-via-in-Some+else-room-index w ↦
          let other = w.in-Some.room.now in
          sym (absent (λ d within here. w.if-room-index.false (ap index_in (w.in-Some.ensures.lookup.1 ∙ get_or_default rooms place other d within) ∙ here)))
      | in_default-via-in_default w ↦
          sym (absent (λ d within here. both_ways (is_some c.get.result) (ap is_some w.in_default.is) (c.get.ensures.lookup.2 within)))
    ]
