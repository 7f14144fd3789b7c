use Rattle.room_commutes.proofs.Greatest.{winner_is, movers_allowed, movers_greatest, movers_apart}
use Rattle.room_commutes.proofs.ActorsOnce.{steps_once, moves_once, mover_steps}
use Rattle.game_tables.specs.declared.action.Action.TheVariants.{Move}
use Rattle.world_rules.specs.Intents.{kept, entries_of, those_in}
use Rattle.room_commutes.proofs.moving.movers_are_greatest.Goals as goal

pub returns : goal.returns
returns c = record {
  once = λ step world list room steps. steps_once step steps (those_in world room (entries_of Move (kept world list))) (moves_once world list room);
  in_force = λ part keyed. mover_steps part keyed;
  least = λ list one. winner_is list one;
  allowed = λ objects list once. movers_allowed objects list once;
  greatest = λ objects list set one once allowed contained. movers_greatest objects list once set allowed one contained;
  apart = λ objects list once. movers_apart objects list once;
}
