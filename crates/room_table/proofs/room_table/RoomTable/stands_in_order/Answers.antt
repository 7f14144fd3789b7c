use Rattle.std.proofs.Common.{◌<◌, ◌^◌, length, subst, arith}
use Rattle.room_table.specs.Tables.{Table, IsRising, AreTalliesOf}
use Rattle.room_table.proofs.Placed.{count_standing}
use Rattle.room_table.proofs.Tallied.{are_tallies}
use Rattle.room_table.proofs.room_table.RoomTable.stands_in_order.Goals as goal

pub returns-clause-rising : goal.returns-clause-rising
returns-clause-rising c = subst (λ (t : Table). IsRising t.objects) c.self.view_is c.self.invariant.0.rising

pub returns-clause-within : goal.returns-clause-within
returns-clause-within c =
    let was = c.self.inside in
    subst (λ (t : Table). length t.objects < 2 ^ 32) c.self.view_is (omega (arith, count_standing was.slots.items was.order.items, c.self.invariant.0.count, c.self.invariant.1.count))

pub returns-clause-tallies : goal.returns-clause-tallies
returns-clause-tallies c =
    let was = c.self.inside in
    subst (λ (t : Table). AreTalliesOf t.objects t.tallies) c.self.view_is (are_tallies was.slots.items was.tallies.items was.order.items c.self.invariant.2.capped)
