use Rattle.std.proofs.Common.{◌≡◌, ◌↔◌, ◌+◌, get_or, false, true, sym, subst}
use Rattle.creep_move.proofs.Tables.{LeftBy, left_more, left_late, held_kept}
use Rattle.creep_move.proofs.walk.release.Goals as goal
use Rattle.creep_move.proofs.walk.release.Goals.{then-tile-held, else-tile-held}

pub loop-from-preserved : goal.loop-from-preserved
loop-from-preserved c =
    let i = c.loop-from.from-index in
    let old = c.loop-from.held in
    let comes = c.args.comes.now in
    let from = get_or comes i 0 in
    elim c.if-tile-held.branch [
      | then-tile-held w ↦ record {
        kept = λ t h. c.loop-from.invariant.kept t (held_kept old from t w.if-tile-held.true (subst (λ held. get_or held t false ≡ true) w.held-is h));
        left = λ t h. subst (λ held. get_or held t false ≡ false ↔ LeftBy (i + 1) comes t) (sym w.held-is) (left_more comes old i t w.if-tile-held.true (c.loop-from.invariant.left t h));
      }
      | else-tile-held w ↦ record {
        kept = λ t h. c.loop-from.invariant.kept t (subst (λ held. get_or held t false ≡ true) w.held-is h);
        left = λ t h. subst (λ held. get_or held t false ≡ false ↔ LeftBy (i + 1) comes t) (sym w.held-is) (left_late comes old i t w.if-tile-held.false (c.loop-from.invariant.left t h));
      }
    ]
