use Rattle.std.proofs.Common.{◌+◌, ◌/◌, ap, sym, ◌∙◌}
use Rattle.std.proofs.lemmas.List.Sums.{length-filter}
use Rattle.world_rules.specs.Moves.{weighs}
use Rattle.creep_move.proofs.landing.weight.Goals as goal

pub returns-clause-weight : goal.returns-clause-weight
returns-clause-weight c = ap (λ n. n + (c.args.creep.now.energy + 49) / 50) (c.heavy_parts.ensures.heavy ∙ sym (length-filter weighs c.args.creep.now.body))
