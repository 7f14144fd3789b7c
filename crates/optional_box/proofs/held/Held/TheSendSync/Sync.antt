use denote.RattleType.{RattleType}
use denote.Param.Send.{IsSync}
use Rattle.optional_box.proofs.Sent.{held_sync}
use Rattle.optional_box.specs.contracts.held.Held.{the_row}

pub sync : (T : RattleType) → IsSync T → IsSync (the_row T)
sync = held_sync
