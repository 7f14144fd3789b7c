use Rattle.std.specs.Prelude.{◌≡◌, ◌+◌, ◌||◌}
use Rattle.std.specs.List.{list_any}
use Rattle.world_rules.specs.Sights.{gives_sight}
use Rattle.world_rules.specs.Sites.{count_of}
use Rattle.spawn_rules.proofs.sites.look_around.Given as goal

abbrev pub invariant-loop-object : goal.invariant-loop-object
invariant-loop-object l = record {
  seen : (l.found.is_seen || list_any (gives_sight l.player) l.object-iterator) ≡ list_any (gives_sight l.player) l.fn.objects;
  standing : l.found.standing + count_of l.number l.object-iterator ≡ count_of l.number l.fn.objects;
}
