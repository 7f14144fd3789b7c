use Rattle.record_follows.proofs.fitting.is_accepted.Goals as goal

pub returns-in_ok-unless_memory-in-Err : goal.returns-in_ok-unless_memory-in-Err
returns-in_ok-unless_memory-in-Err c = λ accepted. c.in-Err.ensures.complete c.in_ok-unless_memory-in-Err.ensures accepted.0 accepted.1
