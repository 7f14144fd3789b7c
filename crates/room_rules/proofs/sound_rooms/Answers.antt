use Rattle.room_rules.proofs.Sound.{sound_keeps}
use Rattle.room_rules.proofs.Followed.{followed_sound}
use Rattle.room_rules.proofs.Crossed.{crossed_sound}
use Rattle.room_rules.proofs.sound_rooms.Goals as goal

pub returns : goal.returns
returns c = record {
  rooms = λ stored index room sound is. sound_keeps stored sound index room is;
  worlds = λ stored after sound follow players. followed_sound stored after sound follow players;
  crossings = crossed_sound;
}
