use Rattle.world_form.proofs.OneThing.{one_world, no_fault, one_fault, some_answer}
use Rattle.world_form.proofs.laws.a_file_says_one_thing.Goals as goal

pub returns-clause-world : goal.returns-clause-world
returns-clause-world c = one_world

pub returns-clause-accepted : goal.returns-clause-accepted
returns-clause-accepted c = no_fault

pub returns-clause-fault : goal.returns-clause-fault
returns-clause-fault c = one_fault

pub returns-clause-something : goal.returns-clause-something
returns-clause-something c = some_answer
