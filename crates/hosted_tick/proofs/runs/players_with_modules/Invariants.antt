use Rattle.std.proofs.Common.{take}
use Rattle.hosted_tick.specs.Hosting.{modules_of}
use Rattle.hosted_tick.specs.inner.Listing.{AreListed}
use Rattle.hosted_tick.proofs.runs.players_with_modules.Given as goal

abbrev pub invariant-loop-account : goal.invariant-loop-account
invariant-loop-account l = AreListed l.world (modules_of l.modules.entries) (take l.account-index l.account-items) l.players.items
