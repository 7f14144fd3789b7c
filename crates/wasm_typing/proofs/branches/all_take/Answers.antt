use Rattle.std.proofs.Common.{◌≡◌, sym, ◌∙◌, arith, Some, ap}
use Rattle.std.proofs.lemmas.List.{take_all}
use Rattle.std.proofs.lemmas.List.Elements.{All-more}
use Rattle.wasm_typing.specs.Typing.{Takes}
use Rattle.wasm_typing.proofs.Entries.{kinds_Decides}
use Rattle.wasm_typing.proofs.branches.all_take.Goals as goal

pub loop-at-preserved : goal.loop-at-preserved
loop-at-preserved c =
    let same : c.in-Some.other ≡ c.args.kind = (kinds_Decides c.in-Some.other c.args.kind).0 (grind (arith, c.if-ne.ensures)) in
    record { within = omega arith; same = All-more (Takes c.args.labels.now c.args.kind) c.args.several.now c.loop-at.at 0 c.loop-at-test.true c.loop-at.invariant.same (sym c.in-Some.ensures ∙ ap Some same) }

pub returns : goal.returns
returns c = rw (take_all c.loop-at.at c.args.several.now c.loop-at-test.false) at c.loop-at.invariant.same
