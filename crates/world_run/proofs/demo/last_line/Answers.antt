use Rattle.std.proofs.Common.{List, ℕ, ◌-◌, drop, length, arith, inl, inr, subst, sym}
use Rattle.std.proofs.lemmas.List.{length-drop, take_all}
use Rattle.world_run.specs.Demo.{IsLastLine}
use Rattle.world_run.proofs.Demonstrates.{last_line}
use Rattle.world_run.proofs.demo.last_line.Goals.{then-loop-start-test+else-text-start-ne10, else-loop-start-test}
use Rattle.world_run.proofs.demo.last_line.Goals as goal

pub returns : goal.returns
returns c =
    let text : List ℕ = c.args.text.now in
    let start = c.loop-start.start in
    let whole = take_all (length text - start) (drop start text) (let many = length-drop start text in omega (arith, many)) in
    subst (λ (line : List ℕ). IsLastLine line text) (sym whole)
    (last_line text start c.loop-start.invariant.within c.loop-start.invariant.line (elim c.loop-start-test.branch [
      | then-loop-start-test+else-text-start-ne10 w ↦ inr (w.loop-start-test.true, w.if-text-start-ne10.false)
      | else-loop-start-test w ↦ inl (omega (arith, w.loop-start-test.false))
    ]))
