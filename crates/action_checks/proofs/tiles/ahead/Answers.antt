use Rattle.std.proofs.Common.{ap, ◌∙◌, option_and_then}
use Rattle.room_terrain.specs.declared.terrain.Place.{Place}
use Rattle.world_rules.specs.Moves.{tile_towards}
use Rattle.action_checks.proofs.Towards.{ahead_none}
use Rattle.action_checks.proofs.tiles.ahead.Goals as goal

pub returns-in_default-step-clause-ahead : goal.returns-in_default-step-clause-ahead
returns-in_default-step-clause-ahead c =
    let at : Place = record { room = 0; x = c.args.x; y = c.args.y } in
    ahead_none at c.in-Some.to c.in_default-step.ensures.none ∙ ap (option_and_then (λ to. tile_towards to c.args.x c.args.y)) c.in-Some.ensures
