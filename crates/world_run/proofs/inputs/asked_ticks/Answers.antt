use Rattle.std.proofs.Common.{map, string_bytes}
use Rattle.command_words.specs.Commands.{a_run}
use Rattle.command_words.proofs.Asking.{are_run}
use Rattle.world_run.proofs.inputs.asked_ticks.Goals as goal

pub returns-in-Err-Usage-clause-usage : goal.returns-in-Err-Usage-clause-usage
returns-in-Err-Usage-clause-usage c is are =
    c.in-Err-Usage.ensures.usage c.in-Err-Usage.field-0-is a_run (are_run c.args.most (map string_bytes c.args.words.now) are)
