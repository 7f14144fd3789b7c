use Rattle.std.proofs.Common.{inl}
use Rattle.world_tools.proofs.Shows.{told_or_wanted}
use Rattle.world_tools.proofs.shown.show_tick.Goals as goal

pub returns-in-Err-clause-complete : goal.returns-in-Err-clause-complete
returns-in-Err-clause-complete g c = λ bytes base world entries told is found fine wrote.
    inl (told_or_wanted c.args.tick _ bytes _ _ base world entries c.in-Err.status told is found fine c.in-Err.ensures.fault)
