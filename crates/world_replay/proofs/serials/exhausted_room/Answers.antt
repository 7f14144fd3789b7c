use Rattle.std.proofs.Common.{◌≤◌, List, length, get_or, sym, ap, ◌∙◌, arith}
use Rattle.std.proofs.lemmas.Option.{slice_get-get_or}
use Rattle.std.specs.Prelude.{slice_get}
use Rattle.object_store.specs.declared.world.Room.{Room}
use Rattle.world_replay.proofs.SerialsLeft.{all_have, one_more, stands}
use Rattle.world_replay.proofs.serials.exhausted_room.Goals as goal

pub loop-index-init : goal.loop-index-init
loop-index-init c = λ earlier room below at. absurd (omega (arith, below))

pub returns-then-next-gt-MOST_SERIALS-clause-some : goal.returns-then-next-gt-MOST_SERIALS-clause-some
returns-then-next-gt-MOST_SERIALS-clause-some c =
    let rooms : List Room = c.room_list-room-items.result.now in
    let same = c.room_list-room-items.ensures.all in
    let room = c.room-item.result in
    record {
      room = room;
      stands = ap (λ (xs : List Room). slice_get xs c.loop-index.index) (sym same) ∙ stands rooms c.loop-index.index room c.loop-index-test.true c.room-item.is;
      above = omega (arith, c.if-next-gt-MOST_SERIALS.true, c.next.ensures);
      first = λ earlier other below at. c.loop-index.invariant earlier other below (ap (λ (xs : List Room). slice_get xs earlier) same ∙ at);
    }

pub loop-index-preserved : goal.loop-index-preserved
loop-index-preserved c =
    let rooms : List Room = c.room_list-room-items.result.now in
    one_more rooms c.loop-index.index c.room-item.result c.loop-index-test.true c.room-item.is c.loop-index.invariant (omega (arith, c.if-next-gt-MOST_SERIALS.false, c.next.ensures))

pub returns-clause-none : goal.returns-clause-none
returns-clause-none c = λ k d inside.
    let rooms : List Room = c.room_list-room-items.result.now in
    let same = c.room_list-room-items.ensures.all in
    let past : length rooms ≤ c.loop-index.index = omega (arith, c.loop-index-test.false) in
    all_have rooms c.loop-index.index past c.loop-index.invariant k (get_or c.args.world.now.rooms k d)
    (ap (λ (xs : List Room). slice_get xs k) same ∙ slice_get-get_or c.args.world.now.rooms k d inside)
