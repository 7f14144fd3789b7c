use Rattle.std.proofs.Common.{◌≡◌, ◌++◌}
use Rattle.std.specs.FinMap.{empty}
use Rattle.hosted_tick.specs.Hosting.{AreLinked, modules_of}
use Rattle.hosted_tick.proofs.Restored.{inserted}
use Rattle.hosted_tick.proofs.restore.link_all.Given as goal

abbrev pub invariant-each : goal.invariant-each
invariant-each l = record {
  kept : modules_of l.linked.entries ≡ inserted empty l.yielded;
  linked : AreLinked l.linked.entries;
  all : l.fn.modules.entries ≡ l.yielded ++ l.player-iterator;
}
