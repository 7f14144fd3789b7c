use Rattle.std.proofs.Common.{◌+◌, ◌≤◌, All, vec_capacity, vec_len}
use Rattle.claim_board.specs.Seats.{IsSeatOf}
use Rattle.world_hub.specs.Hub.{IsPassOfHub}
use Rattle.shared_serve.specs.Lanes.{IsLane}
use Rattle.shared_serve.proofs.serve.fill.Given as goal

abbrev pub invariant-loop-seat : goal.invariant-loop-seat
invariant-loop-seat l = record {
  seats : All (IsSeatOf l.board) l.seats.items;
  passes : All (IsPassOfHub l.hub) l.passes.items;
  lanes : All (IsLane l.board l.hub) l.lanes.items;
  room : vec_len l.lanes + vec_len l.seats ≤ vec_capacity l.lanes;
}

abbrev pub decreases-loop-seat : goal.decreases-loop-seat
decreases-loop-seat l = vec_len l.seats
