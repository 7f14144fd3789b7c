use Rattle.std.proofs.Common.{◌∷◌, [], ◌++◌, false}
use Rattle.status_session.specs.Session.{is_no_request}
use Rattle.status_session.proofs.Cuts.{false_true}
use Rattle.status_session.proofs.Growing.{still}
use Rattle.status_session.proofs.Turns.{is_line, hears, quit_turn, bad_turn}
use Rattle.status_session.proofs.turn.turn_line.Goals as goal

pub returns-in-Some-Quit-clause-turned : goal.returns-in-Some-Quit-clause-turned
returns-in-Some-Quit-clause-turned g c = λ before consumed. let told = c.say_last.ensures in
    quit_turn _ before _ _ _ _ _ c.args.line.now c.say_last.result c.requires.line (rw c.in-Some-Quit.field-0-is at c.in-Some-Quit.ensures.some)
    (hears before _ _ _ told.left consumed) (still _ c.requires.pass.2) told.said

pub returns-in-None-clause-turned : goal.returns-in-None-clause-turned
returns-in-None-clause-turned g c = λ before consumed. let told = c.say_last-in-None.ensures in let line = c.args.line.now in
    bad_turn _ before _ _ _ _ _ false (line ++ 10 ∷ []) c.say_last-in-None.result
    (is_no_request line (line ++ 10 ∷ []) (is_line line c.requires.line) c.in-None.ensures.none) (λ e. false_true e)
    (hears before _ _ _ told.left consumed) (still _ c.requires.pass.2) told.said
