use Rattle.std.proofs.Common.{get_or, set, Option, refl, sym, ap, subst}
use Rattle.std.proofs.lemmas.Option.{slice_get-get_or, slice_get_past}
use Rattle.object_store.specs.declared.world.Room.{Room}
use Rattle.ruled_tick.specs.inner.Entered.{IsRuledIn}
use Rattle.ruled_tick.proofs.act.enter.Goals as goal

pub rule_in-requires : goal.rule_in-requires
rule_in-requires c =
    let rooms = c.args.rooms.now in
    let index = c.args.entry.now.room in
    let room = c.index-rooms-index.result in
    record { ready = c.requires.ready (get_or rooms index room) (slice_get-get_or rooms index room c.if-index-rooms.true) }

pub returns-then-index-rooms : goal.returns-then-index-rooms
returns-then-index-rooms c =
    let rooms = c.args.rooms.now in
    let entry = c.args.entry.now in
    let room = c.index-rooms-index.result in
    let new = c.rule_in.new.room in
    subst (λ (found : Option Room). IsRuledIn found entry.room entry.intent c.rule_in.result rooms (set rooms entry.room new)) (sym (slice_get-get_or rooms entry.room room c.if-index-rooms.true))
    (new.table, ap (set rooms entry.room) c.rule_in.ensures.rest, c.rule_in.ensures.ruled, c.rule_in.ensures.points)

pub returns-else-index-rooms : goal.returns-else-index-rooms
returns-else-index-rooms c =
    let rooms = c.args.rooms.now in
    let entry = c.args.entry.now in
    subst (λ (found : Option Room). IsRuledIn found entry.room entry.intent 0 rooms rooms) (sym (slice_get_past rooms entry.room c.if-index-rooms.false)) (refl, refl)
