use Rattle.world_hub.specs.Hub.{IsPassOfHub}
use Rattle.serve_examples.proofs.serving.offer_each.Given as goal

abbrev pub invariant-loop-player : goal.invariant-loop-player
invariant-loop-player g l = IsPassOfHub l.hub l.pass
