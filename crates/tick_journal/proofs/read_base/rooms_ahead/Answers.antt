use Rattle.std.proofs.Common.{[], ◌∷◌, length-append, arith}
use Rattle.std.proofs.lemmas.Result.{err_from_is_err_and}
use Rattle.object_store.proofs.Accounts.{all_push}
use Rattle.tick_journal.specs.BaseForms.{AreInPlace, HasBaseRoomForm}
use Rattle.tick_journal.specs.Contents.{base_room}
use Rattle.tick_journal.proofs.ListsAhead.{list_none, list_stops, list_longer}
use Rattle.tick_journal.proofs.BaseContents.{base_rooms_are_one, out_of_place, places_push}
use Rattle.tick_journal.proofs.read_base.rooms_ahead.Goals as goal

pub returns-in_err-room-clause-malformed : goal.returns-in_err-room-clause-malformed
returns-in_err-room-clause-malformed c =
    let p = err_from_is_err_and c.from_residual.result c.from_residual.ensures.1 in
    let i = c.each.invariant in
    rw (p.1, p.2) (λ is. list_none AreInPlace HasBaseRoomForm base_room base_rooms_are_one c.args.count c.each.world.rooms c.args.from.now.0 c.each.from.0 (omega (arith, i.counted)) i.forms i.whole (c.in_err-room.ensures.malformed is))

pub returns-then-index-clause-malformed : goal.returns-then-index-clause-malformed
returns-then-index-clause-malformed c =
    let i = c.each.invariant in
    let found = c.in_ok-room.ensures.found in
    λ _. list_stops AreInPlace HasBaseRoomForm base_room base_rooms_are_one c.args.count c.each.world.rooms c.in_ok-room.room c.args.from.now.0 c.each.from.0 c.read_base_room.new.from.0 (omega (arith, i.counted)) i.forms i.whole found.0 found.1
    (λ more places. let same = out_of_place c.each.world.rooms c.in_ok-room.room more places in omega (arith, same, i.counted, c.index.ensures, c.if-index.true))

pub each-preserved : goal.each-preserved
each-preserved c =
    let i = c.each.invariant in
    let found = c.in_ok-room.ensures.found in
    rw c.in_ok-push_room.ensures.ok (record {
      counted = omega (arith, length-append c.each.world.rooms (c.in_ok-room.room ∷ []), i.counted);
      places = places_push c.each.world.rooms c.in_ok-room.room i.places (omega (arith, i.counted, c.index.ensures, c.if-index.false));
      forms = all_push HasBaseRoomForm c.each.world.rooms c.in_ok-room.room i.forms found.0;
      whole = list_longer base_room c.each.world.rooms c.in_ok-room.room c.args.from.now.0 c.each.from.0 c.read_base_room.new.from.0 i.whole found.1;
      tick = i.tick;
      accounts = i.accounts;
    })
