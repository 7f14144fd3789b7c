use Rattle.std.proofs.Common.{rules, ◌≡◌, [], ◌∷◌, ◌++◌}
use Rattle.std.proofs.lemmas.List.Elements.{All-push}
use Rattle.claim_board.specs.Seats.{IsSeatOf}
use Rattle.world_hub.specs.Hub.{IsPassOfHub}
use Rattle.shared_serve.specs.Lanes.{IsLane}
use Rattle.shared_serve.proofs.Lanes.{all_before, all_last}
use Rattle.shared_serve.proofs.serve.fill.Goals as goal

pub loop-seat-preserved : goal.loop-seat-preserved
loop-seat-preserved c =
    let seats : c.loop-seat.seats.items ≡ c.pop.new.self.items ++ c.in-Some.seat ∷ [] = search rules in
    let passes : c.loop-seat.passes.items ≡ c.pop-in-Some.new.self.items ++ c.in-Some-pop.pass ∷ [] = search rules in
    let lanes : c.push_reserved.new.self.items ≡ c.loop-seat.lanes.items ++ (record { seat = c.in-Some.seat; pass = c.in-Some-pop.pass }) ∷ [] = search rules in
    let old = c.loop-seat.invariant in
    let all_seats = rw seats at old.seats in
    let all_passes = rw passes at old.passes in
    record {
      seats = all_before (IsSeatOf c.args.board.now) _ _ all_seats;
      passes = all_before (IsPassOfHub c.args.hub.now) _ _ all_passes;
      lanes = rw lanes (All-push (IsLane c.args.board.now c.args.hub.now) _ _ old.lanes (all_last (IsSeatOf c.args.board.now) _ _ all_seats, all_last (IsPassOfHub c.args.hub.now) _ _ all_passes));
      room = search rules;
    }
