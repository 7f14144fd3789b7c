use Rattle.site_limit.proofs.Kept.{limit_kept}
use Rattle.site_limit.proofs.ticks_keep_the_limit_of_sites.Goals as goal

pub returns : goal.returns
returns c = limit_kept
