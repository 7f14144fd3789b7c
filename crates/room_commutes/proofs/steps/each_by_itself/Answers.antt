use Rattle.room_commutes.proofs.CreepsApart.{each_get, each_rest}
use Rattle.room_commutes.proofs.steps.each_by_itself.Goals as goal

pub returns : goal.returns
returns c = record {
  objects = λ change part id keeps keyed. each_get change keeps part keyed id;
  rest = λ change part keeps keyed. each_rest change keeps part keyed;
}
