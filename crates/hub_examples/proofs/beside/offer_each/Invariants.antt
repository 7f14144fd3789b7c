use Rattle.std.proofs.Common.{◌≡◌, ◌+◌, ◌-◌, ◌^◌, ◌≤◌, min, length}
use Rattle.world_hub.specs.Hub.{hand, IsPassOfHub}
use Rattle.hub_examples.proofs.beside.offer_each.Given as goal

abbrev pub invariant-loop-player : goal.invariant-loop-player
invariant-loop-player g l = IsPassOfHub l.hub l.pass × ((hand l.pass).fulls ≡ min ((hand l.initial.pass).fulls + l.back) (2 ^ 64 - 1))
    × (length (hand l.pass).offers + l.back ≡ length (hand l.initial.pass).offers + l.player-index) × (l.back ≤ l.player-index)
