use Rattle.std.proofs.Common.{◌≡◌, ◌∙◌, ◌≤◌, inl, List, Some, ap, sym, subst, slice_get}
use Rattle.std.proofs.lemmas.Option.{slice_get_within}
use Rattle.room_table.specs.declared.object.Object.{Object}
use Rattle.object_store.specs.declared.world.Room.{Room}
use Rattle.object_store.specs.Stored.{Stored}
use Rattle.room_table.specs.Tables.{find_object}
use Rattle.exit_crossing.specs.inner.Landings.{rooms_entered}
use Rattle.exit_crossing.proofs.Gone.{other_stays, same_other, id_of_creep, absent_there}
use Rattle.exit_crossing.proofs.crossing.cross_over.Goals as goal

pub put_in-requires-clause-room : goal.put_in-requires-clause-room
put_in-requires-clause-room c =
    let rooms = c.args.world.now.rooms in
    let at = c.in-Some.at in
    let lands = c.in-Some.ensures.some in
    let left = ap (λ (w : Stored). w.rooms) (c.take_out.ensures.left lands.was lands.left) in
    slice_get_within c.take_out.new.world.rooms at.room lands.other (ap (λ (rs : List Room). slice_get rs at.room) left ∙ other_stays rooms c.args.crosser at lands)

pub put_in-requires-clause-absent : goal.put_in-requires-clause-absent
put_in-requires-clause-absent c other is =
    let rooms = c.args.world.now.rooms in
    let at = c.in-Some.at in
    let lands = c.in-Some.ensures.some in
    let left = ap (λ (w : Stored). w.rooms) (c.take_out.ensures.left lands.was lands.left) in
    let same = same_other rooms c.args.crosser at lands other (sym (ap (λ (rs : List Room). slice_get rs at.room) left) ∙ is) in
    let both : Some c.in-Some-take_out.creep ≡ Some lands.creep = c.in-Some-take_out.ensures.taken lands.was lands.left ∙ lands.stood in
    let creep : c.in-Some-take_out.creep ≡ lands.creep = cc in
    let id = ap (λ (o : Object). o.id) creep ∙ id_of_creep rooms c.args.crosser at lands in
    (λ i. find_object (id i) (sym same i).table.objects) ∙ absent_there rooms c.args.crosser at lands c.requires.ids

pub put_in-requires-clause-spare : goal.put_in-requires-clause-spare
put_in-requires-clause-spare c other is =
    let rooms = c.args.world.now.rooms in
    let at = c.in-Some.at in
    let lands = c.in-Some.ensures.some in
    let left = ap (λ (w : Stored). w.rooms) (c.take_out.ensures.left lands.was lands.left) in
    let same = same_other rooms c.args.crosser at lands other (sym (ap (λ (rs : List Room). slice_get rs at.room) left) ∙ is) in
    subst (λ (r : Room). 1 ≤ r.table.spare) same (c.requires.spare at lands lands.other lands.entered)

pub returns : goal.returns
returns c =
    let rooms = c.args.world.now.rooms in
    let at = c.in-Some.at in
    let lands = c.in-Some.ensures.some in
    let whole = c.take_out.ensures.left lands.was lands.left in
    let left = ap (λ (w : Stored). w.rooms) whole in
    let both : Some c.in-Some-take_out.creep ≡ Some lands.creep = c.in-Some-take_out.ensures.taken lands.was lands.left ∙ lands.stood in
    let creep : c.in-Some-take_out.creep ≡ lands.creep = cc in
    let there = ap (λ (rs : List Room). slice_get rs at.room) left ∙ other_stays rooms c.args.crosser at lands in
    inl (at, lands, c.put_in.ensures lands.other there ∙ (λ i. record (whole i) { rooms = rooms_entered (whole i).rooms at.room (record (creep i) { x = at.x; y = at.y }) lands.other }))
