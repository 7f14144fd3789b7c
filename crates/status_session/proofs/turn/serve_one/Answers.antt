use Rattle.std.proofs.Common.{◌≡◌, take, true, false, length, arith}
use Rattle.std.proofs.lemmas.List.{length-take-le}
use Rattle.status_session.specs.Session.{is_too_long, is_cut, of_line}
use Rattle.status_session.proofs.Cuts.{false_true}
use Rattle.status_session.proofs.Growing.{still}
use Rattle.status_session.proofs.Turns.{hears, still_at_end, last_from, no_part, nothing, bad_turn, end_turn}
use Rattle.status_session.proofs.turn.serve_one.Goals as goal

pub returns-in-Ok-Long-clause-turned : goal.returns-in-Ok-Long-clause-turned
returns-in-Ok-Long-clause-turned g c = let heard = rw c.in-Ok-Long.field-0-is at c.in-Ok-Long.ensures.heard in let told = c.say_last.ensures in let buf = c.hear_line.new.line in
    bad_turn _ _ _ _ _ _ _ false (take 200 buf) c.say_last.result
    (is_too_long (take 200 buf) heard.1 (length-take-le 200 buf (omega (arith, c.hear_line.ensures.same)))) (λ e. false_true e)
    (hears _ _ _ _ told.left heard.0) (still _ c.requires.pass.2) (last_from _ _ _ _ _ _ c.hear_line.ensures.written told.said)

pub returns-in-Ok-Cut-clause-turned : goal.returns-in-Ok-Cut-clause-turned
returns-in-Ok-Cut-clause-turned g c = let heard = rw c.in-Ok-Cut.field-0-is at c.in-Ok-Cut.ensures.heard in let told = c.say_last-in-Ok-Cut.ensures in
    let buf = c.hear_line.new.line in let n = c.in-Ok-Cut.field-0-0 in let long : length (take n buf) ≡ n = length-take-le n buf (omega (arith, c.hear_line.ensures.same, heard.1)) in
    bad_turn _ _ _ _ _ _ _ true (take n buf) c.say_last-in-Ok-Cut.result
    (is_cut (take n buf) heard.3 (omega (arith, long, heard.0)) (omega (arith, long, heard.1))) (λ _. still_at_end _ _ told.left heard.4)
    (hears _ _ _ _ told.left heard.2) (still _ c.requires.pass.2) (last_from _ _ _ _ _ _ c.hear_line.ensures.written told.said)

pub returns-in-Ok-End-clause-turned : goal.returns-in-Ok-End-clause-turned
returns-in-Ok-End-clause-turned g c = let heard = rw c.in-Ok-End.field-0-is at c.in-Ok-End.ensures.heard in
    end_turn _ _ _ _ _ _ heard.0 heard.1 c.hear_line.ensures.written c.requires.pass.2

pub returns-in-Err-clause-turned : goal.returns-in-Err-clause-turned
returns-in-Err-clause-turned g c = let part = c.in-Err.ensures.part in
    nothing _ _ _ _ _ _ _ part.0 (of_line part.0 part.2.0 part.2.1) part.1 (still _ c.requires.pass.2) (no_part _ _ c.hear_line.ensures.written)
