use Rattle.player_run.proofs.Judged.{refused_whole}
use Rattle.player_run.proofs.admission.admit.Goals as goal

pub returns-in-Ok-clause-complete : goal.returns-in-Ok-clause-complete
returns-in-Ok-clause-complete c =
    refused_whole c.args.bytes.now c.admit_module.result (c.admit_module.ensures.refused c.args.bytes.now c.in-Ok.ensures.within.0 c.in-Ok.ensures.found)

pub returns-in-Err-Malformed-clause-refused : goal.returns-in-Err-Malformed-clause-refused
returns-in-Err-Malformed-clause-refused c = λ other. c.in-Err-Malformed.ensures.malformed c.in-Err-Malformed.field-0-is
