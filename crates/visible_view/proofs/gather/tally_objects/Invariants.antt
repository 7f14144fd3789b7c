use Rattle.std.proofs.Common.{◌≡◌, ◌≤◌, ◌++◌, length, map}
use Rattle.std.specs.List.{count_by, list_any}
use Rattle.world_rules.specs.Sights.{gives_sight}
use Rattle.visible_view.specs.inner.Gathered.{is_controller_of, is_site_of}
use Rattle.visible_view.proofs.gather.tally_objects.Given as goal

abbrev pub invariant-loop-object : goal.invariant-loop-object
invariant-loop-object l = record {
  rest : map (λ object. object.now) l.yielded ++ l.object-iterator ≡ l.fn.objects;
  seen : l.found.is_seen ≡ list_any (gives_sight l.player) (map (λ object. object.now) l.yielded);
  few : (l.found.sites ≤ length l.yielded) × (l.found.controllers ≤ length l.yielded);
  controllers : l.found.controllers ≡ count_by (is_controller_of l.player) (map (λ object. object.now) l.yielded);
  sites : l.found.sites ≡ count_by (is_site_of l.player) (map (λ object. object.now) l.yielded);
}
