use Rattle.room_commutes.proofs.Crossed.{crossed_apart, crossed_stay, crossed_go, crossed_none, crossed_rest}
use Rattle.room_commutes.proofs.Rested.{rested_first}
use Rattle.room_commutes.proofs.crossing.crossings_keep.Goals as goal

pub returns : goal.returns
returns c = record {
  apart = λ world apart. crossed_apart world apart;
  stay = λ world id placed is stays. crossed_stay world id placed is stays;
  go = λ world id placed is. crossed_go world id placed is;
  none = λ world id is. crossed_none world id is;
  rest = λ world. crossed_rest world;
  listed = λ world ids. rested_first world ids;
}
