use Rattle.std.proofs.Common.{sym, subst, Option, List, ℕ, ◌∷◌, ◌++◌, []}
use Rattle.std.specs.Io.KnownBytes.{Consumes}
use Rattle.status_session.proofs.Turns.{status_turn}
use Rattle.status_session.proofs.turn.turn_status.Goals as goal

pub returns-clause-turned : goal.returns-clause-turned
returns-clause-turned g c = λ before consumed. let told = c.tell_status.ensures in
    status_turn _ before _ _ _ _ _ c.args.line.now c.goes.result c.tell_status.result c.goes.ensures c.requires.line c.requires.asked
    (subst (λ (x : Option (List ℕ)). Consumes before x (c.args.line.now ++ 10 ∷ [])) (sym told.left) consumed) told.told
