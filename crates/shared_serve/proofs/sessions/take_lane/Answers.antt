use Rattle.std.proofs.Common.{rules, ◌≡◌, [], ◌∷◌, ◌++◌}
use Rattle.shared_serve.specs.Lanes.{IsLane}
use Rattle.shared_serve.proofs.Lanes.{all_before, all_last}
use Rattle.shared_serve.proofs.sessions.take_lane.Goals as goal

pub returns-in-Some : goal.returns-in-Some
returns-in-Some c =
    let lanes : c.args.lanes.now.items ≡ c.pop.new.self.items ++ c.in-Some.lane ∷ [] = search rules in
    let all = rw lanes at c.requires in
    record {
      lane = all_last (IsLane c.args.board.now c.args.hub.now) _ _ all;
      others = all_before (IsLane c.args.board.now c.args.hub.now) _ _ all;
    }
