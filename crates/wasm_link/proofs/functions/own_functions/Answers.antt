use Rattle.std.proofs.Common.{◌∙◌, List, ap, sym, refl, subst, length, arith}
use Rattle.std.specs.List.{sum_by}
use Rattle.wasm_module.specs.Sections.{module_view}
use Rattle.wasm_typing.specs.Context.{locals_of}
use Rattle.wasm_link.specs.declared.entries.Entry.{Entry}
use Rattle.wasm_link.specs.Made.{EachAt, IsOwnAt}
use Rattle.wasm_link.proofs.Owned.{kind_within, few_locals, few_params, own_more, own_kinds_more}
use Rattle.wasm_link.proofs.functions.own_functions.Goals as goal

pub bounds-types-kind : goal.bounds-types-kind
bounds-types-kind c = kind_within c.args.whole.now c.requires.valid c.as_slice-kinds.result.now c.as_slice-types.result.now c.as_slice-codes.result.now c.as_slice-kinds.ensures c.as_slice-types.ensures c.as_slice-codes.ensures c.loop-at.at c.loop-at-test.true

pub overflow_cast-as_slice : goal.overflow_cast-as_slice
overflow_cast-as_slice c =
    let few = few_params c.args.whole.now c.requires.valid c.as_slice-kinds.result.now c.as_slice-types.result.now c.as_slice-codes.result.now c.as_slice-kinds.ensures c.as_slice-types.ensures c.as_slice-codes.ensures c.loop-at.at c.loop-at-test.true c.requires.locals c.index-types-kind.result c.index-types-kind.is in
    let same = ap length c.as_slice.ensures in
    record { fits = omega (arith, few, same) }

pub count_of-requires : goal.count_of-requires
count_of-requires c =
    let few = few_locals c.args.whole.now c.requires.valid c.as_slice-kinds.result.now c.as_slice-types.result.now c.as_slice-codes.result.now c.as_slice-kinds.ensures c.as_slice-types.ensures c.as_slice-codes.ensures c.loop-at.at c.loop-at-test.true c.requires.locals c.index-types-kind.result c.index-types-kind.is c.index-codes-at.result in
    let same = ap (sum_by (λ run. run.count)) c.as_slice-in-loop-at.ensures in
    omega (arith, few, same)

pub loop-at-preserved : goal.loop-at-preserved
loop-at-preserved c =
    let m = c.args.whole.now in
    let x = c.index-types-kind.result in
    let more = own_more m c.requires.valid c.as_slice-kinds.result.now c.as_slice-types.result.now c.as_slice-codes.result.now c.as_slice-kinds.ensures c.as_slice-types.ensures c.as_slice-codes.ensures c.loop-at.at c.loop-at-test.true
    c.loop-at.functions.items x c.index-types-kind.is c.index-codes-at.result (length c.as_slice.result.now) c.count_of.result c.results_of.result (ap length c.as_slice.ensures) (c.count_of.ensures ∙ ap (λ z. length (locals_of z)) c.as_slice-in-loop-at.ensures)
    c.results_of.ensures c.loop-at.invariant.count c.loop-at.invariant.own in
    record {
      within = omega (arith, c.loop-at-test.true);
      count = grind (arith, c.in_ok-push.ensures.len, c.loop-at.invariant.count);
      own = subst (λ (z : List Entry). EachAt (IsOwnAt (module_view m)) z) (sym c.in_ok-push.ensures.items) more;
      kinds = own_kinds_more c.as_slice-kinds.result.now c.loop-at.at c.loop-at.functions.items c.push.new.self.items _ c.loop-at-test.true refl c.in_ok-push.ensures.items c.loop-at.invariant.kinds;
    }
