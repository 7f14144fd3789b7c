use Rattle.std.proofs.Common.{ℕ, ◌-◌, sym, ap, ◌∙◌}
use Rattle.std.specs.Prelude.{slice_get}
use Rattle.room_table.proofs.Greatest.{greatest_last, greatest_none}
use Rattle.room_table.proofs.room_table.RoomTable.greatest_id.Goals as goal

pub returns-in-Some : goal.returns-in-Some
returns-in-Some c =
    let objects = c.args.self.now.objects in
    let place = c.saturating_sub.ensures ∙ ap (λ (n : ℕ). n - 1) c.len.ensures in
    greatest_last objects c.in-Some.object.now c.stands_in_order.ensures.rising (sym (c.in-Some.ensures ∙ ap (slice_get objects) place))

pub returns-in-None : goal.returns-in-None
returns-in-None c =
    let objects = c.args.self.now.objects in
    let place = c.saturating_sub.ensures ∙ ap (λ (n : ℕ). n - 1) c.len.ensures in
    greatest_none objects (sym (c.in-None.ensures ∙ ap (slice_get objects) place))
