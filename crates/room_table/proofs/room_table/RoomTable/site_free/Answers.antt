use Rattle.std.proofs.Common.{◌∙◌, ◌||◌, not, ap}
use Rattle.room_table.proofs.Obstructed.{any_fixed}
use Rattle.room_table.proofs.room_table.RoomTable.site_free.Goals as goal

pub returns : goal.returns
returns c =
    ap not (
    (λ i. ((c.obstructed.ensures i || c.stands.ensures i) || c.stands-2.ensures i) || c.stands-3.ensures i)
    ∙ any_fixed c.args.x c.args.y 0 c.args.self.now.objects
    )
