use Rattle.std.proofs.Common.{subst, sym}
use Rattle.hosted_tick.specs.Hosting.{AreAccepted}
use Rattle.journal_examples.proofs.restored_tests.restored.Goals as goal

pub restored-requires : goal.restored-requires
restored-requires c =
    let recovered = c.in-Ok.ensures.found in
    record { accepted = subst AreAccepted (sym recovered.1.modules) (c.courses_have_accepted_modules.ensures c.in-Ok.found.base recovered.0 recovered.1.course) }
