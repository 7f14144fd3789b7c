use Rattle.std.proofs.Common.{◌∙◌, ◌||◌}
use Rattle.room_table.proofs.Obstructed.{any_kind}
use Rattle.room_table.proofs.room_table.RoomTable.obstructed.Goals as goal

pub returns : goal.returns
returns c =
    (λ i. (((c.stands.ensures i || c.stands-2.ensures i) || c.stands-3.ensures i) || c.stands-4.ensures i) || c.stands-5.ensures i)
    ∙ any_kind c.args.x c.args.y c.args.player c.args.self.now.objects
