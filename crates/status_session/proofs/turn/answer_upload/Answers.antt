use Rattle.std.proofs.Common.{refl, ◌∷◌, [], ◌++◌}
use Rattle.status_session.specs.Session.{Offers}
use Rattle.status_session.proofs.Cuts.{false_true}
use Rattle.status_session.proofs.Growing.{still}
use Rattle.status_session.proofs.Turns.{hears, is_line, nobody_turn, another_turn, offer_turn}
use Rattle.status_session.proofs.turn.answer_upload.Goals as goal

pub returns-then-has_token-clause-turned : goal.returns-then-has_token-clause-turned
returns-then-has_token-clause-turned g c = λ before consumed. let told = c.offer.ensures in let line = c.args.line.now in let bytes = c.args.bytes.items in
    let offers : Offers c.args.offered (line ++ 10 ∷ []) bytes = record { line = line; is_line = is_line line c.requires.line; asks = c.requires.asked; size = c.requires.size } in
    offer_turn _ before _ _ _ _ _ line bytes c.args.offered c.goes.result offers c.offer.result c.goes.ensures
    c.in-Some.entry.now c.in-Some.ensures.some (c.if-has_token.ensures.0 refl) _ refl refl (hears before _ _ _ told.left consumed) told.told

pub returns-else-has_token-clause-turned : goal.returns-else-has_token-clause-turned
returns-else-has_token-clause-turned g c = λ before consumed. let told = c.say.ensures in let line = c.args.line.now in let bytes = c.args.bytes.items in
    let offers : Offers c.args.offered (line ++ 10 ∷ []) bytes = record { line = line; is_line = is_line line c.requires.line; asks = c.requires.asked; size = c.requires.size } in
    another_turn _ before _ _ _ _ _ line bytes c.args.offered c.goes-else-has_token.result offers c.say.result c.goes-else-has_token.ensures
    c.in-Some.entry.now c.in-Some.ensures.some (λ e. false_true (c.if-has_token.ensures.1 e)) (hears before _ _ _ told.left consumed) (still _ c.requires.pass.2) told.said

pub returns-in-None-clause-turned : goal.returns-in-None-clause-turned
returns-in-None-clause-turned g c = λ before consumed. let told = c.say-in-None.ensures in let line = c.args.line.now in let bytes = c.args.bytes.items in
    let offers : Offers c.args.offered (line ++ 10 ∷ []) bytes = record { line = line; is_line = is_line line c.requires.line; asks = c.requires.asked; size = c.requires.size } in
    nobody_turn _ before _ _ _ _ _ line bytes c.args.offered c.goes-in-None.result offers c.say-in-None.result c.goes-in-None.ensures c.in-None.ensures.none
    (hears before _ _ _ told.left consumed) (still _ c.requires.pass.2) told.said
