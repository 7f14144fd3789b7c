-- What a check reads, as it is given.
use Rattle.std.specs.Prelude.{[], option_map}
use Rattle.std.specs.Option.{unwrap_or}
use Rattle.world_rules.specs.World.{shown}
use Rattle.world_rules.specs.Checks as checks
use Rattle.action_checks.specs.declared.checks.Scene.{Scene}

abbrev pub scene_view : Scene → checks.Scene
scene_view scene = record {
  player = scene.player;
  actor = option_map shown scene.actor;
  target = option_map shown scene.target;
  around = unwrap_or (option_map (λ table. table.now.objects) scene.around) [];
  amount = scene.amount;
  least = scene.least;
  claims = scene.claims;
  level = scene.level;
}
