use Rattle.std.proofs.Common.{ℕ, ◌<◌, ◌^◌, subst}
use Rattle.room_table.proofs.Greatest.{all_under}
use Rattle.room_table.proofs.room_table.RoomTable.ids_fit.Goals as goal

pub returns : goal.returns
returns c = all_under (2 ^ 64) c.args.self.now.objects (subst (λ (n : ℕ). n < 2 ^ 64) c.greatest_id.ensures c.greatest_id.type_inv)
