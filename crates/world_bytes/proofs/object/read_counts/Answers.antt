use Rattle.std.proofs.Common.{rules}
use Rattle.world_bytes.proofs.Fields.{counts_whole}
use Rattle.world_bytes.proofs.object.read_counts.Goals as goal

pub returns-clause-found : goal.returns-clause-found
returns-clause-found c = (
  record { hits = search rules; energy = search rules; timer = search rules; extra = search rules; progress = search rules; other = search rules; other_ticks = search rules },
  counts_whole _ _ _ _ _ _ _ _ _ c.in_ok-hits.ensures.found c.in_ok-energy.ensures.found c.in_ok-timer.ensures.found c.in_ok-extra.ensures.found c.in_ok-progress.ensures.found c.in_ok-other.ensures.found c.in_ok-other_ticks.ensures.found,
)
