use Rattle.std.proofs.Common.{List, sym, refl, subst, get_or, arith}
use Rattle.std.proofs.lemmas.Option.{slice_get-get_or}
use Rattle.wasm_link.specs.declared.entries.Entry.{Entry}
use Rattle.wasm_link.specs.Made.{EachAt, IsImportedAt}
use Rattle.wasm_link.proofs.Names.{number_fits, other_here, imported_here, kinds_more}
use Rattle.wasm_link.proofs.imports.imported_functions.Goals as goal

pub returns-in_default-clause-fault : goal.returns-in_default-clause-fault
returns-in_default-clause-fault c =
    let sigs = c.args.sigs.now in
    let imports = c.args.imports.now in
    let calls = c.args.calls.now in
    let types = c.args.types.now in
    let at = c.loop-at.at in
    let x = get_or imports at c.index-imports-at.result in
    let old = c.loop-at.functions.items in
    let is = slice_get-get_or imports at c.index-imports-at.result c.loop-at-test.true in
    let fits = number_fits sigs imports calls at c.requires.named c.loop-at-test.true in
    other_here sigs types imports calls at x _ old c.loop-at-test.true is c.requires.named c.loop-at.invariant.count c.loop-at.invariant.imported (slice_get-get_or sigs (get_or calls at 0) _ fits) c.in_default.ensures

pub loop-at-preserved : goal.loop-at-preserved
loop-at-preserved c =
    let sigs = c.args.sigs.now in
    let imports = c.args.imports.now in
    let calls = c.args.calls.now in
    let types = c.args.types.now in
    let at = c.loop-at.at in
    let x = get_or imports at c.index-imports-at.result in
    let old = c.loop-at.functions.items in
    let is = slice_get-get_or imports at c.index-imports-at.result c.loop-at-test.true in
    let fits = number_fits sigs imports calls at c.requires.named c.loop-at-test.true in
    let more = imported_here sigs types imports calls at x _ old c.loop-at-test.true is c.requires.named c.loop-at.invariant.count c.loop-at.invariant.imported c.in-Some.kind (slice_get-get_or sigs (get_or calls at 0) _ fits) c.in-Some.ensures in
    record {
      within = omega (arith, c.loop-at-test.true);
      count = grind (arith, c.in_ok-push.ensures.len, c.loop-at.invariant.count);
      imported = subst (λ (z : List Entry). EachAt (IsImportedAt sigs types imports) z) (sym c.in_ok-push.ensures.items) more;
      kinds = kinds_more imports at c.in-Some.kind c.index-imports-at.result old c.push.new.self.items _ c.index-imports-at.is c.loop-at-test.true refl c.in-Some.ensures.func c.in_ok-push.ensures.items c.loop-at.invariant.kinds;
    }
