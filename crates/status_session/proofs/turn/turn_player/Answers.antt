use Rattle.std.proofs.Common.{◌∷◌, [], ◌++◌}
use Rattle.status_session.specs.Session.{AsksLine}
use Rattle.status_session.proofs.Growing.{still}
use Rattle.status_session.proofs.Turns.{hears, is_line, player_turn, stranger_turn}
use Rattle.status_session.proofs.turn.turn_player.Goals as goal

pub returns-in-Some-clause-turned : goal.returns-in-Some-clause-turned
returns-in-Some-clause-turned g c = λ before consumed. let told = c.tell_line.ensures in let line = c.args.line.now in
    let asks : AsksLine c.args.digits.now (line ++ 10 ∷ []) = record { line = line; is_line = is_line line c.requires.line; asks = c.requires.asked.0; number = c.requires.asked.1 } in
    player_turn _ before _ _ _ _ _ line c.args.digits.now c.in-Some.entry.now c.goes.result c.tell_line.result c.goes.ensures asks c.in-Some.ensures.some (hears before _ _ _ told.left consumed) told.told

pub returns-in-None-clause-turned : goal.returns-in-None-clause-turned
returns-in-None-clause-turned g c = λ before consumed. let told = c.say.ensures in let line = c.args.line.now in
    let asks : AsksLine c.args.digits.now (line ++ 10 ∷ []) = record { line = line; is_line = is_line line c.requires.line; asks = c.requires.asked.0; number = c.requires.asked.1 } in
    stranger_turn _ before _ _ _ _ _ line c.args.digits.now c.goes-in-None.result c.say.result c.goes-in-None.ensures asks c.in-None.ensures.none (hears before _ _ _ told.left consumed) (still _ c.requires.pass.2) told.said
