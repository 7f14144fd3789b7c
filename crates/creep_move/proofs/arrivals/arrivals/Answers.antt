use Rattle.std.proofs.Common.{◌≡◌, ◌<◌, ◌+◌, ◌++◌, ◌∷◌, [], List, if◌then◌else◌, set, length, get_or, take, arith, ap, sym, subst, ◌∙◌}
use Rattle.std.proofs.lemmas.List.{take_all, take_more}
use Rattle.room_terrain.specs.Tiles.{tile}
use Rattle.intent_book.specs.declared.intent.Intent.{Intent}
use Rattle.world_rules.specs.RoomParts.{RoomPart, table_part}
use Rattle.creep_move.specs.inner.Arrivals.{Arrives, leads}
use Rattle.creep_move.proofs.Arriving.{arrives_none, arrives_step}
use Rattle.creep_move.proofs.arrivals.arrivals.Goals as goal
use Rattle.creep_move.proofs.arrivals.arrivals.Goals.{in-Some, in_default}

pub loop-intent-preserved : goal.loop-intent-preserved
loop-intent-preserved c =
    let part : RoomPart = table_part c.args.terrain.now c.args.room.now in
    let s = c.loop-intent in
    let i = s.intent-index in
    let moves = c.args.moves.now in
    let entry = c.intent-item.result in
    let front : List Intent = take i moves in
    let more : take (i + 1) moves ≡ front ++ entry ∷ [] = take_more moves i entry c.loop-intent-test.true ∙ ap (λ (e : Intent). front ++ e ∷ []) (sym c.intent-item.is) in
    elim c.match-candidate.branch [
      | in-Some w ↦
          let step = w.in-Some.step in
          let to = tile step.x step.y in
          let low : to < length s.comes = omega (arith, s.invariant.long, w.in-Some.ensures.from.column, w.in-Some.ensures.from.row) in
          let short : to < length s.best = omega (arith, s.invariant.wide, w.in-Some.ensures.from.column, w.in-Some.ensures.from.row) in
          record {
            long = ap length w.comes-is ∙ w.arrive.auto.comes ∙ s.invariant.long;
            wide = ap length w.best-is ∙ w.arrive.auto.best ∙ s.invariant.wide;
            winners = λ t within.
                subst (λ p. Arrives part p t (get_or c.match-candidate.comes t 0) (get_or c.match-candidate.best t 0)) (sym more)
                (subst (λ comes. Arrives part (front ++ entry ∷ []) t (get_or comes t 0) (get_or c.match-candidate.best t 0)) (sym (w.comes-is ∙ w.arrive.ensures.comes))
                (subst (λ best. Arrives part (front ++ entry ∷ []) t (get_or (if leads step s.comes s.best then set s.comes to step.from else s.comes) t 0) (get_or best t 0)) (sym (w.best-is ∙ w.arrive.ensures.best))
                (arrives_step part front entry step (sym w.in-Some.ensures.mover) w.in-Some.ensures.from s.comes s.best low short s.invariant.winners t within)));
          }
      | in_default w ↦ record {
        long = ap length w.comes-is ∙ s.invariant.long;
        wide = ap length w.best-is ∙ s.invariant.wide;
        winners = λ t within.
            subst (λ p. Arrives part p t (get_or c.match-candidate.comes t 0) (get_or c.match-candidate.best t 0)) (sym more)
            (subst (λ comes. Arrives part (front ++ entry ∷ []) t (get_or comes t 0) (get_or c.match-candidate.best t 0)) (sym w.comes-is)
            (subst (λ best. Arrives part (front ++ entry ∷ []) t (get_or s.comes t 0) (get_or best t 0)) (sym w.best-is)
            (arrives_none part front entry (sym w.in_default.ensures.mover) t (get_or s.comes t 0) (get_or s.best t 0) (s.invariant.winners t within))));
      }
    ]

pub returns : goal.returns
returns c = λ t low. subst (λ p. Arrives (table_part c.args.terrain.now c.args.room.now) p t (get_or c.loop-intent.comes t 0) (get_or c.loop-intent.best t 0)) (take_all c.loop-intent.intent-index c.args.moves.now (omega arith)) (c.loop-intent.invariant.winners t low)
