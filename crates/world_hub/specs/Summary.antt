-- What a summary tells.
use Rattle.std.specs.Prelude.{◌≡◌, ℕ, List, take}
use Rattle.world_hub.specs.declared.summary.PlayerLine.{PlayerLine}
use Rattle.world_hub.specs.declared.summary.Summary.{Summary}

-- the lines of the players
abbrev pub lines_of : Summary → List PlayerLine
lines_of summary = take summary.count summary.lines

-- The line is that of this player.
abbrev pub IsOf : ℕ → PlayerLine → Type 0
IsOf player line = line.player ≡ player
