use Rattle.std.proofs.Common.{subst, ◌∙◌}
use Rattle.std.proofs.lemmas.Result.{on_ok_weaker, on_err_weaker}
use Rattle.std.specs.Io.KnownBytes.{Appends}
use Rattle.run_lines.proofs.Giving.{gives_both, prefix_behind}
use Rattle.run_lines.proofs.pieces.print.Goals as goal

pub returns-clause-given : goal.returns-clause-given
returns-clause-given g c =
    let first = subst (Appends (g.O.Sink.written c.args.out.now) (g.O.Sink.written c.write_all.new.sink)) (c.deref.ensures.value ∙ c.if-add.ensures) c.in_ok-write_all.ensures.whole in
    on_ok_weaker c.write_all-2.result (λ last. gives_both _ _ _ c.args.piece.now.items c.args.text.now c.clear.new.self.items first last c.clear.ensures.items) c.write_all-2.ensures.whole

pub returns-clause-cut : goal.returns-clause-cut
returns-clause-cut g c =
    let first = subst (Appends (g.O.Sink.written c.args.out.now) (g.O.Sink.written c.write_all.new.sink)) (c.deref.ensures.value ∙ c.if-add.ensures) c.in_ok-write_all.ensures.whole in
    on_err_weaker c.write_all-2.result (λ part. prefix_behind _ _ _ c.args.piece.now.items c.args.text.now first part) c.write_all-2.ensures.prefix
