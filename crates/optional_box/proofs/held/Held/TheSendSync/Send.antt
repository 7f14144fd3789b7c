use denote.RattleType.{RattleType}
use denote.Param.Send.{IsSend}
use Rattle.optional_box.proofs.Sent.{held_send}
use Rattle.optional_box.specs.contracts.held.Held.{the_row}

pub send : (T : RattleType) → IsSend T → IsSend (the_row T)
send = held_send
