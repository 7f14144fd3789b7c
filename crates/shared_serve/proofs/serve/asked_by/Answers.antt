use Rattle.command_words.specs.Commands.{a_serve}
use Rattle.shared_serve.proofs.serve.asked_by.Goals as goal

pub returns-in-Err-Usage-clause-usage : goal.returns-in-Err-Usage-clause-usage
returns-in-Err-Usage-clause-usage c is are = c.in-Err-Usage.ensures.usage c.in-Err-Usage.field-0-is a_serve are
