use Rattle.claim_board.specs.Seats.{IsSeatOf}
use Rattle.world_hub.specs.Hub.{IsPassOfHub}
use Rattle.shared_serve.proofs.sessions.serve_lane.Given as goal

abbrev pub invariant-loop : goal.invariant-loop
invariant-loop g l = (goal.iterator-loop g).can_next l.iterator' × (goal.iterator-loop g).is_finite l.iterator' × IsSeatOf l.board l.seat × IsPassOfHub l.hub l.pass
