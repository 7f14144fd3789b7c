use Rattle.std.proofs.Common.{ap, length, subst, ◌∙◌, sym}
use Rattle.std.specs.Map.Iter.{TakesFirst, deref}
use Rattle.std.proofs.iter.runs.Sources.{from_front}
use Rattle.room_table.specs.Tables.{Table, AreTalliesOf}
use Rattle.room_table.proofs.Changed.{standing_equal}
use Rattle.room_table.proofs.room_table.RoomTable.objects.Goals as goal

pub returns-clause-runs : goal.returns-clause-runs
returns-clause-runs c = from_front (TakesFirst deref) deref (λ s. s) (λ s t h. ap length h.0) (λ s x t h. h)

pub returns-clause-tallies : goal.returns-clause-tallies
returns-clause-tallies c =
    let all = c.of.ensures ∙ standing_equal c.deref.ensures.value c.deref-2.ensures.value ∙ ap (λ (t : Table). t.objects) c.self.view_is in
    subst (λ os. AreTalliesOf os c.args.self.now.tallies) (sym all) c.stands_in_order.ensures.tallies
