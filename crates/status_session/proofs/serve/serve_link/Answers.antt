use Rattle.std.proofs.Common.{◌∙◌, refl, arith}
use Rattle.status_session.proofs.Ending.{begun, goes_once, ended_by, spent}
use Rattle.status_session.proofs.serve.serve_link.Goals as goal

pub returns-in-Over-clause-session : goal.returns-in-Over-clause-session
returns-in-Over-clause-session g c =
    ended_by _ _ _ _ _ _ _ _ _ _ c.loop.counter c.loop.invariant.gone c.loop-test.true c.in-Over.end c.in-Over.ensures.turned

pub returns-clause-session : goal.returns-clause-session
returns-clause-session g c = spent _ _ _ _ _ _ _ c.loop.counter (omega (arith, c.loop-test.false, c.loop.auto.counter-end)) c.loop.invariant.gone

pub loop-init : goal.loop-init
loop-init g c = record {
  pass = c.requires;
  gone = begun _ _ _ _ c.requires.2;
  reads = refl;
  writes = refl;
}

pub loop-preserved : goal.loop-preserved
loop-preserved g c = let once = c.in-Goes.ensures in record {
  pass = once.pass;
  gone = goes_once _ _ _ _ _ _ _ _ _ _ c.loop.counter c.loop.invariant.gone c.loop-test.true once.turned;
  reads = once.counts.0 ∙ c.loop.invariant.reads;
  writes = once.counts.1 ∙ c.loop.invariant.writes;
}
