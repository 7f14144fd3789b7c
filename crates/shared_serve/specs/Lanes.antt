-- What a session loop works with.
use Rattle.claim_board.specs.Seats.{BoardSeen, IsSeatOf}
use Rattle.world_hub.specs.Hub.{IsPassOfHub}
use Rattle.world_hub.specs.declared.hub.Hub.{Hub}
use Rattle.shared_serve.specs.declared.sessions.Lane.{Lane}

-- The lane has a seat of this board and a pass of this hub.
abbrev pub IsLane : BoardSeen → Hub → Lane → Type 0
IsLane board hub lane = IsSeatOf board lane.seat × IsPassOfHub hub lane.pass
