use Rattle.std.proofs.Common.{ℕ, List, sym, subst, arith}
use Rattle.wasm_link.specs.Made.{EachAt, IsNamedAt}
use Rattle.wasm_link.proofs.Each.{each_push, read_at}
use Rattle.wasm_link.proofs.Names.{first_unknown}
use Rattle.wasm_link.proofs.imports.call_numbers.Goals as goal

pub returns-in_default-clause-fault : goal.returns-in_default-clause-fault
returns-in_default-clause-fault c =
    let imports = c.args.imports.now in
    let at = c.loop-at.at in
    let x = c.index-imports-at.result in
    first_unknown c.args.sigs.now imports c.loop-at.calls.items at c.loop-at.invariant.count c.loop-at.invariant.named x (read_at imports at x c.loop-at-test.true c.index-imports-at.is) c.in_default.ensures

pub loop-at-preserved : goal.loop-at-preserved
loop-at-preserved c =
    let sigs = c.args.sigs.now in
    let imports = c.args.imports.now in
    let at = c.loop-at.at in
    let x = c.index-imports-at.result in
    let old = c.loop-at.calls.items in
    let P = IsNamedAt sigs imports in
    let more = each_push P old c.in-Some.call at c.loop-at.invariant.count c.loop-at.invariant.named (x, read_at imports at x c.loop-at-test.true c.index-imports-at.is, c.in-Some.ensures) in
    record {
      within = omega (arith, c.loop-at-test.true);
      count = grind (arith, c.in_ok-push.ensures.len, c.loop-at.invariant.count);
      named = subst (λ (z : List ℕ). EachAt P z) (sym c.in_ok-push.ensures.items) more;
    }
