use Rattle.std.proofs.Common.{arith}
use Rattle.host_calls.specs.Calls.{all_calls}
use Rattle.player_run.proofs.Signatures.{as_many, none_plain}
use Rattle.player_run.proofs.admission.admit_valid.Goals as goal

pub link-requires-clause-few : goal.link-requires-clause-few
link-requires-clause-few c = let count = as_many all_calls c.host_sigs.result.now c.host_sigs.ensures in omega (arith, count)

pub link-requires-clause-plain : goal.link-requires-clause-plain
link-requires-clause-plain c = none_plain all_calls c.host_sigs.result.now c.host_sigs.ensures
