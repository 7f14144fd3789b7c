use Rattle.world_form.specs.FirstFaults.{world_checks}
use Rattle.world_form.proofs.Checks.{no_first}
use Rattle.world_form.proofs.Exact.{world_exact}
use Rattle.world_form.proofs.Said.{world_holds, world_held}
use Rattle.world_form.proofs.laws.keys_are_checked.Goals as goal

pub returns-clause-said : goal.returns-clause-said
returns-clause-said c = world_holds

pub returns-clause-held : goal.returns-clause-held
returns-clause-held c = world_held

pub returns-clause-fails : goal.returns-clause-fails
returns-clause-fails c = λ value hold fault. no_first (world_checks value) fault (world_exact value) hold
