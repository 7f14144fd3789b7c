use Rattle.std.proofs.Common.{◌≡◌, ◌∙◌, refl, sym}
use Rattle.command_words.specs.Commands.{a_run, a_serve}
use Rattle.command_words.proofs.Tools.{none_of_tool}
use Rattle.command_words.specs.declared.command.WordsFault.{WordsFault}
use Rattle.command_words.specs.declared.command.WordsFault.TheVariants as faults
use Rattle.run_status.specs.declared.status.Status.{Status}
use Rattle.run_status.specs.declared.status.Status.TheVariants as statuses
use Rattle.server_calls.proofs.calls.run_command.Goals as goal

-- A call that ends with `Usage` did not want memory.
is_usage : (fault : WordsFault) (status : Status) → (fault ≡ faults.Memory → status ≡ statuses.Memory)
    → status ≡ statuses.Usage → fault ≡ faults.Usage
is_usage faults.Usage status wanted is = refl
is_usage faults.Memory status wanted is =
    let bad : statuses.Memory ≡ statuses.Usage = sym (wanted refl) ∙ is in cc

pub returns-in-Err-clause-usage : goal.returns-in-Err-clause-usage
returns-in-Err-clause-usage g c = λ is.
    let none = c.in-Err.ensures.usage
    (is_usage c.in-Err.fault c.refused_words.result c.refused_words.ensures.memory is) in
    (none a_run, none a_serve, none_of_tool _ none)
