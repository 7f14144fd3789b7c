-- A world stays sound over crossings.
use Rattle.object_store.specs.Stored.{Stored}
use Rattle.world_rules.specs.Sound.{IsSound}
use Rattle.room_rules.proofs.Crossed.{crossed_sound}
use Rattle.exit_crossing.proofs.Underway.{AreCrossed, at_first, further}

pub sound_then : (first last : Stored) → AreCrossed first last → IsSound first → IsSound last
sound_then first last at_first sound = sound
sound_then first last (further {before = before} chain crossing) sound = crossed_sound before last (sound_then first before chain sound) crossing
