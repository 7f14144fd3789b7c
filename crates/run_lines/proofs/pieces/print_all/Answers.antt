use Rattle.std.proofs.Common.{◌++◌, List, ℕ, Bor, take, subst, sym, ◌∙◌, append_assoc}
use Rattle.std.proofs.lemmas.Result.{err_from_is_err_and}
use Rattle.std.specs.List.{flat_map}
use Rattle.world_io.specs.Told.{AppendsPrefix}
use Rattle.run_lines.specs.inner.Pieces.{Gives}
use Rattle.run_lines.proofs.Giving.{cut_more, flat_next, flat_parts, gives_more, prefix_longer}
use Rattle.run_lines.proofs.pieces.print_all.Goals as goal

pub returns-in_err-print-clause-cut : goal.returns-in_err-print-clause-cut
returns-in_err-print-clause-cut g c =
    let p = err_from_is_err_and c.from_residual.result c.from_residual.ensures.1 in
    let old = g.O.Sink.written c.args.out.now in
    let new = g.O.Sink.written c.print.new.out in
    let text : Bor (List ℕ) → List ℕ = λ text. text.now in
    let texts = c.args.texts.now in
    let piece = c.args.piece.now.items in
    let part = cut_more old _ new piece _ (flat_map text (take c.loop-text.text-index texts)) _ c.loop-text.invariant.given c.in_err-print.ensures.cut in
    rw p.1 (subst (λ (z : List ℕ). AppendsPrefix old new (piece ++ z)) (sym (flat_parts text texts c.loop-text.text-index _ c.loop-text-test.true))
    (subst (AppendsPrefix old new) (append_assoc piece _ _) (prefix_longer old new _ _ part)))

pub loop-text-preserved : goal.loop-text-preserved
loop-text-preserved g c =
    let text : Bor (List ℕ) → List ℕ = λ text. text.now in
    let texts = c.args.texts.now in
    record {
      given = subst (Gives (g.O.Sink.written c.args.out.now) (g.O.Sink.written c.print.new.out) c.args.piece.now.items c.print.new.piece.items)
          (sym (flat_next text texts c.loop-text.text-index _ c.loop-text-test.true))
          (gives_more _ _ _ c.args.piece.now.items _ _ (flat_map text (take c.loop-text.text-index texts)) _ c.loop-text.invariant.given c.in_ok-print.ensures.given);
      steady = c.in_ok-print.ensures.cause.kept ∙ c.loop-text.invariant.steady;
    }
