use Rattle.std.proofs.Common.{◌≡◌, ◌==◌, false, ap, sym, ◌∙◌}
use Rattle.std.specs.List.{list_any}
use Rattle.std.proofs.lemmas.Bool.{both_ways}
use Rattle.room_table.specs.declared.object.Object.{Object}
use Rattle.room_table.specs.Tables.{Table}
use Rattle.room_table.specs.inner.Placed.{standing}
use Rattle.room_table.proofs.Owned.{none_owned}
use Rattle.room_table.proofs.room_table.RoomTable.has_owner.Goals as goal

pub returns-else-may_have : goal.returns-else-may_have
returns-else-may_have c =
    let player = c.args.player in
    let was = c.self.inside in
    let not : c.may_have.result ≡ false = c.if-may_have.false in
    not ∙ sym (none_owned was.owners.remainders player (standing was.slots.items was.order.items) c.self.invariant.3 (λ may. both_ways c.may_have.result not (c.may_have.ensures may)))
    ∙ ap (λ (t : Table). list_any (λ (o : Object). o.owner == player) t.objects) c.self.view_is
