use Rattle.std.proofs.Common.{ℕ, List, ◌∷◌, [], ◌++◌, Option, true, subst, arith}
use Rattle.world_io.proofs.Known.{consumes_more}
use Rattle.status_session.specs.Session.{is_cut_short, of_upload}
use Rattle.status_session.specs.inner.Turned.{Turned}
use Rattle.status_session.proofs.Growing.{still}
use Rattle.status_session.proofs.Turns.{is_line, hears, still_at_end, last_from, no_part, nothing, bad_turn}
use Rattle.status_session.proofs.turn.turn_upload.Goals as goal

pub returns-in-Err-Fault-clause-turned : goal.returns-in-Err-Fault-clause-turned
returns-in-Err-Fault-clause-turned g c = λ before consumed. let part = c.in-Err-Fault.ensures.part in
    nothing _ before _ _ _ _ _ ((c.args.line.now ++ 10 ∷ []) ++ part.0)
    (of_upload c.args.line.now (c.args.line.now ++ 10 ∷ []) part.0 c.args.offered (is_line c.args.line.now c.requires.line) c.requires.asked part.2)
    (consumes_more _ _ _ _ _ consumed part.1) (still _ c.requires.pass.2) (no_part _ _ c.hear_bytes.ensures.written)

pub returns-in-Err-Memory-clause-turned : goal.returns-in-Err-Memory-clause-turned
returns-in-Err-Memory-clause-turned g c = λ before consumed. let part = c.in-Err-Memory.ensures.part in
    nothing _ before _ _ _ _ _ ((c.args.line.now ++ 10 ∷ []) ++ part.0)
    (of_upload c.args.line.now (c.args.line.now ++ 10 ∷ []) part.0 c.args.offered (is_line c.args.line.now c.requires.line) c.requires.asked part.2)
    (consumes_more _ _ _ _ _ consumed part.1) (still _ c.requires.pass.2) (no_part _ _ c.hear_bytes.ensures.written)

pub returns-then-len-size-clause-turned : goal.returns-then-len-size-clause-turned
returns-then-len-size-clause-turned g c = λ before consumed. let heard = c.in-Ok.ensures.heard in let line = c.args.line.now in
    bad_turn _ before _ _ _ _ _ true ((line ++ 10 ∷ []) ++ c.in-Ok.bytes.items) c.say_last.result
    (is_cut_short line (line ++ 10 ∷ []) c.in-Ok.bytes.items c.args.offered (is_line line c.requires.line) c.requires.asked (omega (arith, c.if-len-size.true)))
    (λ _. still_at_end _ _ c.say_last.ensures.left (heard.2 (omega (arith, c.if-len-size.true))))
    (hears before _ _ _ c.say_last.ensures.left (consumes_more _ _ _ _ _ consumed heard.0)) (still _ c.requires.pass.2)
    (last_from _ _ _ _ _ _ c.hear_bytes.ensures.written c.say_last.ensures.said)

pub returns-clause-turned : goal.returns-clause-turned
returns-clause-turned g c = λ before consumed. let heard = c.in-Ok.ensures.heard in let answered = c.answer_upload in
    subst (λ (x : Option (List ℕ)). Turned c.args.tokens.now before (g.L.Source.left answered.new.link) x (g.L.Sink.written answered.new.link) c.args.pass.now answered.new.pass answered.result)
    c.hear_bytes.ensures.written (answered.ensures.turned before (consumes_more _ _ _ _ _ consumed heard.0))
