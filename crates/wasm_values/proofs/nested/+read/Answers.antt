use Rattle.std.proofs.Common.{◌≡◌, ℕ, [], ◌++◌, refl, ap, sym, ◌∙◌, append_assoc, arith, map, inl, inr}
use Rattle.std.proofs.lemmas.List.{map-append}
use Rattle.std.proofs.lemmas.Result.{err_from_is_err_and}
use Rattle.wasm_values.specs.Syntax.{Op, Ops}
use Rattle.wasm_values.specs.declared.instr.Instr.TheViews.{roll-Instrs}
use Rattle.wasm_values.specs.declared.instr.Instr.TheFolds.{fold-roll-Instrs}
use Rattle.wasm_values.specs.View.{op_step, instrs_step, instr_view, instrs_view, items_view}
use Rattle.wasm_values.specs.Values.{SpellsBlockType}
use Rattle.wasm_values.specs.Instructions.{spells_none}
use Rattle.wasm_values.specs.inner.Nested.{SpellsInner, SpellsBranches, IsEnd}
use Rattle.wasm_values.proofs.Fronts.{then_begins, then_only, then_none_first, then_none_second}
use Rattle.wasm_values.proofs.Bodies.{pushed, pushed_nesting, later_ops_start, later_ops_step, later_ops_none, later_ops_end, later_ops_short, body_found, no_end_byte}
use Rattle.wasm_values.proofs.Nests.{inner_body, inner_found, branches_found_one, branches_found_two, branches_none_first, branches_none_second, branches_only_one, branches_only_two, view_empty, tag_block, tag_loop, tag_if, nest_found, nest_only, nest_none}
use Rattle.wasm_values.proofs.Views.{view_block, view_loop, view_if}
use Rattle.wasm_values.proofs.nested.+read.Goals.{body-then-code-eq11-via-then-code-eq11, body-then-code-eq11-via-else-code-eq11+then-code-eq5}
use Rattle.wasm_values.proofs.nested.+read.Goals as goal

pub body-loop-list-init : goal.body-loop-list-init
body-loop-list-init t c = record {
  text = [];
  spelled = rw c.new-list.ensures.items spells_none;
  whole = refl;
  depth = rw c.new-list.ensures.items (omega arith);
  later = λ value rest b. rw c.new-list.ensures.items (later_ops_start c.args.depth value c.args.cursor.now.0 rest b);
}

pub body-returns-in_err-code-clause-malformed : goal.body-returns-in_err-code-clause-malformed
body-returns-in_err-code-clause-malformed t c = let p = err_from_is_err_and c.from_residual.result c.from_residual.ensures.1 in rw p.1 (λ _. λ value rest b. later_ops_short c.args.depth value (map instr_view c.loop-list.list.items) c.loop-list.cursor.0 rest (c.loop-list.invariant.later value rest b) c.in_err-code.ensures.short)

pub body-returns-then-code-eq11-clause-found : goal.body-returns-then-code-eq11-clause-found
body-returns-then-code-eq11-clause-found t c =
    let i = c.loop-list.invariant in
    let is : IsEnd c.in_ok-code.code = (elim c.then-code-eq11.branch [ body-then-code-eq11-via-then-code-eq11 w ↦ inl w.if-code-eq11.true | body-then-code-eq11-via-else-code-eq11+then-code-eq5 w ↦ inr w.if-code-eq5.true ]) in
    let seen : instrs_view (roll-Instrs record { list = c.in_ok-kept.kept }) ≡ items_view c.loop-list.list.items = fold-roll-Instrs Op Ops op_step instrs_step record { list = c.in_ok-kept.kept } ∙ ap (λ z. items_view z) c.in_ok-kept.ensures in
    rw seen (body_found c.args.depth c.in_ok-code.code c.args.cursor.now.0 i.text c.loop-list.cursor.0 c.u8.new.self.0 (items_view c.loop-list.list.items) i.spelled is i.depth i.whole c.in_ok-code.ensures.found)

pub body-returns-then-code-eq11-clause-only : goal.body-returns-then-code-eq11-clause-only
body-returns-then-code-eq11-clause-only t c = λ value rest b.
    let is : IsEnd c.in_ok-code.code = (elim c.then-code-eq11.branch [ body-then-code-eq11-via-then-code-eq11 w ↦ inl w.if-code-eq11.true | body-then-code-eq11-via-else-code-eq11+then-code-eq5 w ↦ inr w.if-code-eq5.true ]) in
    let seen : instrs_view (roll-Instrs record { list = c.in_ok-kept.kept }) ≡ items_view c.loop-list.list.items = fold-roll-Instrs Op Ops op_step instrs_step record { list = c.in_ok-kept.kept } ∙ ap (λ z. items_view z) c.in_ok-kept.ensures in
    rw seen (later_ops_end c.args.depth value (map instr_view c.loop-list.list.items) c.loop-list.cursor.0 rest c.u8.new.self.0 c.in_ok-code.code (c.loop-list.invariant.later value rest b) c.in_ok-code.ensures.found is)

pub body-returns-in_err-next-clause-malformed : goal.body-returns-in_err-next-clause-malformed
body-returns-in_err-next-clause-malformed t c = let p = err_from_is_err_and c.from_residual-in_err-next.result c.from_residual-in_err-next.ensures.1 in rw (p.1, p.2) (λ is. λ value rest b. later_ops_none c.args.depth value (map instr_view c.loop-list.list.items) c.loop-list.cursor.0 rest c.u8.new.self.0 c.in_ok-code.code (c.loop-list.invariant.later value rest b) c.in_ok-code.ensures.found (no_end_byte c.in_ok-code.code c.if-code-eq11.false c.if-code-eq5.false) (c.in_err-next.ensures.malformed is))

pub body-loop-list-preserved : goal.body-loop-list-preserved
body-loop-list-preserved t c =
    let i = c.loop-list.invariant in
    let r = c.in_ok-next.ensures.found in
    record {
      text = i.text ++ r.0;
      spelled = pushed c.loop-list.list.items c.push.new.self.items c.in_ok-next.next i.text r.0 c.in_ok-push.ensures.items i.spelled r.1.0;
      whole = i.whole ∙ ap (λ z. i.text ++ z) (c.in_ok-code.ensures.found ∙ r.2) ∙ sym (append_assoc i.text r.0 c.instr.new.cursor.0);
      depth = pushed_nesting c.loop-list.list.items c.push.new.self.items c.in_ok-next.next c.args.depth c.in_ok-push.ensures.items i.depth r.1.1;
      later = λ value rest b. rw (c.in_ok-push.ensures.items, map-append) (later_ops_step c.args.depth value (map instr_view c.loop-list.list.items) c.loop-list.cursor.0 rest c.u8.new.self.0 c.instr.new.cursor.0 c.in_ok-code.code (instr_view c.in_ok-next.next) (i.later value rest b) c.in_ok-code.ensures.found (no_end_byte c.in_ok-code.code c.if-code-eq11.false c.if-code-eq5.false) c.in_ok-next.ensures.only);
    }

pub branches-returns-in_err-inside-clause-malformed : goal.branches-returns-in_err-inside-clause-malformed
branches-returns-in_err-inside-clause-malformed t c = let p = err_from_is_err_and c.from_residual.result c.from_residual.ensures.1 in rw (p.1, p.2) (λ is. branches_none_first c.args.depth c.args.cursor.now.0 (omega arith) (c.in_err-inside.ensures.malformed is))

pub branches-returns-then-inside-eq11-clause-found : goal.branches-returns-then-inside-eq11-clause-found
branches-returns-then-inside-eq11-clause-found t c = branches_found_one c.args.depth c.in_ok-inside.inside.end c.args.cursor.now.0 c.body.new.cursor.0 (instrs_view c.in_ok-inside.inside.instrs) (instrs_view c.new.result) (omega arith) c.if-inside-eq11.true (view_empty c.new.result c.new.ensures) c.in_ok-inside.ensures.found

pub branches-returns-then-inside-eq11-clause-only : goal.branches-returns-then-inside-eq11-clause-only
branches-returns-then-inside-eq11-clause-only t c = branches_only_one c.args.depth c.in_ok-inside.inside.end c.args.cursor.now.0 c.body.new.cursor.0 (instrs_view c.in_ok-inside.inside.instrs) (instrs_view c.new.result) (omega arith) c.if-inside-eq11.true (view_empty c.new.result c.new.ensures) c.in_ok-inside.ensures.only

pub branches-returns-in_err-second-clause-malformed : goal.branches-returns-in_err-second-clause-malformed
branches-returns-in_err-second-clause-malformed t c = let p = err_from_is_err_and c.from_residual-in_err-second.result c.from_residual-in_err-second.ensures.1 in rw (p.1, p.2) (λ is. branches_none_second c.args.depth c.in_ok-inside.inside.end c.args.cursor.now.0 c.body.new.cursor.0 (instrs_view c.in_ok-inside.inside.instrs) (omega arith) c.if-inside-eq11.false c.in_ok-inside.ensures.only (c.in_err-second.ensures.malformed is))

pub branches-returns-clause-found : goal.branches-returns-clause-found
branches-returns-clause-found t c = branches_found_two c.args.depth c.in_ok-inside.inside.end c.args.cursor.now.0 c.body.new.cursor.0 c.inner.new.cursor.0 (instrs_view c.in_ok-inside.inside.instrs) (instrs_view c.in_ok-second.second) (omega arith) c.if-inside-eq11.false c.in_ok-inside.ensures.found c.in_ok-second.ensures.found

pub branches-returns-clause-only : goal.branches-returns-clause-only
branches-returns-clause-only t c = branches_only_two c.args.depth c.in_ok-inside.inside.end c.args.cursor.now.0 c.body.new.cursor.0 c.inner.new.cursor.0 (instrs_view c.in_ok-inside.inside.instrs) (instrs_view c.in_ok-second.second) (omega arith) c.if-inside-eq11.false c.in_ok-inside.ensures.only c.in_ok-second.ensures.only

pub inner-returns-in_err-inside-clause-malformed : goal.inner-returns-in_err-inside-clause-malformed
inner-returns-in_err-inside-clause-malformed t c = let p = err_from_is_err_and c.from_residual.result c.from_residual.ensures.1 in rw (p.1, p.2) (λ is. λ ops rest b. c.in_err-inside.ensures.malformed is (ops, 0x0b) rest (inner_body c.args.depth c.args.cursor.now.0 rest ops (omega arith) b))

pub inner-returns-then-inside-eq11-clause-found : goal.inner-returns-then-inside-eq11-clause-found
inner-returns-then-inside-eq11-clause-found t c = inner_found c.args.depth c.in_ok-inside.inside.end c.args.cursor.now.0 c.body.new.cursor.0 (instrs_view c.in_ok-inside.inside.instrs) (omega arith) c.if-inside-eq11.true c.in_ok-inside.ensures.found

pub inner-returns-then-inside-eq11-clause-only : goal.inner-returns-then-inside-eq11-clause-only
inner-returns-then-inside-eq11-clause-only t c = λ ops rest b. let one = c.in_ok-inside.ensures.only (ops, 0x0b) rest (inner_body c.args.depth c.args.cursor.now.0 rest ops (omega arith) b) in (ap (λ (z : Ops × ℕ). z.0) one.0, one.1)

pub inner-returns-else-inside-eq11-clause-malformed : goal.inner-returns-else-inside-eq11-clause-malformed
inner-returns-else-inside-eq11-clause-malformed t c = λ _ ops rest b. let one = c.in_ok-inside.ensures.only (ops, 0x0b) rest (inner_body c.args.depth c.args.cursor.now.0 rest ops (omega arith) b) in c.if-inside-eq11.false (sym (ap (λ (z : Ops × ℕ). z.1) one.0))

pub instr-returns-in_err-kind-in-2-clause-malformed : goal.instr-returns-in_err-kind-in-2-clause-malformed
instr-returns-in_err-kind-in-2-clause-malformed t c = let p = err_from_is_err_and c.from_residual.result c.from_residual.ensures.1 in rw (p.1, p.2) (λ is. nest_none c.args.depth (tag_block c.args.depth) c.args.code c.args.cursor.now.0 c.in-2.is (then_none_first SpellsBlockType (SpellsInner c.args.depth) c.args.cursor.now.0 (c.in_err-kind-in-2.ensures.malformed is)))

pub instr-returns-in_err-instrs-in-2-clause-malformed : goal.instr-returns-in_err-instrs-in-2-clause-malformed
instr-returns-in_err-instrs-in-2-clause-malformed t c = let p = err_from_is_err_and c.from_residual-in_err-instrs-in-2.result c.from_residual-in_err-instrs-in-2.ensures.1 in rw (p.1, p.2) (λ is. nest_none c.args.depth (tag_block c.args.depth) c.args.code c.args.cursor.now.0 c.in-2.is (then_none_second SpellsBlockType (SpellsInner c.args.depth) c.args.cursor.now.0 c.block_type.new.cursor.0 c.in_ok-kind-in-2.kind c.in_ok-kind-in-2.ensures.only (c.in_err-instrs-in-2.ensures.malformed is)))

pub instr-returns-in_ok-instrs-in-2-clause-found : goal.instr-returns-in_ok-instrs-in-2-clause-found
instr-returns-in_ok-instrs-in-2-clause-found t c = nest_found c.args.depth (tag_block c.args.depth) c.args.code c.args.cursor.now.0 c.inner.new.cursor.0 (c.in_ok-kind-in-2.kind, (instrs_view c.in_ok-instrs-in-2.instrs)) _ c.in-2.is (view_block c.in_ok-kind-in-2.kind c.in_ok-instrs-in-2.instrs) (then_begins SpellsBlockType (SpellsInner c.args.depth) c.args.cursor.now.0 c.block_type.new.cursor.0 c.inner.new.cursor.0 c.in_ok-kind-in-2.kind (instrs_view c.in_ok-instrs-in-2.instrs) c.in_ok-kind-in-2.ensures.found c.in_ok-instrs-in-2.ensures.found)

pub instr-returns-in_ok-instrs-in-2-clause-only : goal.instr-returns-in_ok-instrs-in-2-clause-only
instr-returns-in_ok-instrs-in-2-clause-only t c = nest_only c.args.depth (tag_block c.args.depth) c.args.code c.args.cursor.now.0 c.inner.new.cursor.0 (c.in_ok-kind-in-2.kind, (instrs_view c.in_ok-instrs-in-2.instrs)) _ c.in-2.is (view_block c.in_ok-kind-in-2.kind c.in_ok-instrs-in-2.instrs) (then_only SpellsBlockType (SpellsInner c.args.depth) c.args.cursor.now.0 c.block_type.new.cursor.0 c.inner.new.cursor.0 c.in_ok-kind-in-2.kind (instrs_view c.in_ok-instrs-in-2.instrs) c.in_ok-kind-in-2.ensures.only c.in_ok-instrs-in-2.ensures.only)

pub instr-returns-in_err-kind-in-3-clause-malformed : goal.instr-returns-in_err-kind-in-3-clause-malformed
instr-returns-in_err-kind-in-3-clause-malformed t c = let p = err_from_is_err_and c.from_residual-in_err-kind-in-3.result c.from_residual-in_err-kind-in-3.ensures.1 in rw (p.1, p.2) (λ is. nest_none c.args.depth (tag_loop c.args.depth) c.args.code c.args.cursor.now.0 c.in-3.is (then_none_first SpellsBlockType (SpellsInner c.args.depth) c.args.cursor.now.0 (c.in_err-kind-in-3.ensures.malformed is)))

pub instr-returns-in_err-instrs-in-3-clause-malformed : goal.instr-returns-in_err-instrs-in-3-clause-malformed
instr-returns-in_err-instrs-in-3-clause-malformed t c = let p = err_from_is_err_and c.from_residual-in_err-instrs-in-3.result c.from_residual-in_err-instrs-in-3.ensures.1 in rw (p.1, p.2) (λ is. nest_none c.args.depth (tag_loop c.args.depth) c.args.code c.args.cursor.now.0 c.in-3.is (then_none_second SpellsBlockType (SpellsInner c.args.depth) c.args.cursor.now.0 c.block_type-in-3.new.cursor.0 c.in_ok-kind-in-3.kind c.in_ok-kind-in-3.ensures.only (c.in_err-instrs-in-3.ensures.malformed is)))

pub instr-returns-in_ok-instrs-in-3-clause-found : goal.instr-returns-in_ok-instrs-in-3-clause-found
instr-returns-in_ok-instrs-in-3-clause-found t c = nest_found c.args.depth (tag_loop c.args.depth) c.args.code c.args.cursor.now.0 c.inner-in-3.new.cursor.0 (c.in_ok-kind-in-3.kind, (instrs_view c.in_ok-instrs-in-3.instrs)) _ c.in-3.is (view_loop c.in_ok-kind-in-3.kind c.in_ok-instrs-in-3.instrs) (then_begins SpellsBlockType (SpellsInner c.args.depth) c.args.cursor.now.0 c.block_type-in-3.new.cursor.0 c.inner-in-3.new.cursor.0 c.in_ok-kind-in-3.kind (instrs_view c.in_ok-instrs-in-3.instrs) c.in_ok-kind-in-3.ensures.found c.in_ok-instrs-in-3.ensures.found)

pub instr-returns-in_ok-instrs-in-3-clause-only : goal.instr-returns-in_ok-instrs-in-3-clause-only
instr-returns-in_ok-instrs-in-3-clause-only t c = nest_only c.args.depth (tag_loop c.args.depth) c.args.code c.args.cursor.now.0 c.inner-in-3.new.cursor.0 (c.in_ok-kind-in-3.kind, (instrs_view c.in_ok-instrs-in-3.instrs)) _ c.in-3.is (view_loop c.in_ok-kind-in-3.kind c.in_ok-instrs-in-3.instrs) (then_only SpellsBlockType (SpellsInner c.args.depth) c.args.cursor.now.0 c.block_type-in-3.new.cursor.0 c.inner-in-3.new.cursor.0 c.in_ok-kind-in-3.kind (instrs_view c.in_ok-instrs-in-3.instrs) c.in_ok-kind-in-3.ensures.only c.in_ok-instrs-in-3.ensures.only)

pub instr-returns-in_err-kind-in-4-clause-malformed : goal.instr-returns-in_err-kind-in-4-clause-malformed
instr-returns-in_err-kind-in-4-clause-malformed t c = let p = err_from_is_err_and c.from_residual-in_err-kind-in-4.result c.from_residual-in_err-kind-in-4.ensures.1 in rw (p.1, p.2) (λ is. nest_none c.args.depth (tag_if c.args.depth) c.args.code c.args.cursor.now.0 c.in-4.is (then_none_first SpellsBlockType (SpellsBranches c.args.depth) c.args.cursor.now.0 (c.in_err-kind-in-4.ensures.malformed is)))

pub instr-returns-in_err-parts-in-4-clause-malformed : goal.instr-returns-in_err-parts-in-4-clause-malformed
instr-returns-in_err-parts-in-4-clause-malformed t c = let p = err_from_is_err_and c.from_residual-in_err-parts-in-4.result c.from_residual-in_err-parts-in-4.ensures.1 in rw (p.1, p.2) (λ is. nest_none c.args.depth (tag_if c.args.depth) c.args.code c.args.cursor.now.0 c.in-4.is (then_none_second SpellsBlockType (SpellsBranches c.args.depth) c.args.cursor.now.0 c.block_type-in-4.new.cursor.0 c.in_ok-kind-in-4.kind c.in_ok-kind-in-4.ensures.only (c.in_err-parts-in-4.ensures.malformed is)))

pub instr-returns-in_ok-parts-in-4-clause-found : goal.instr-returns-in_ok-parts-in-4-clause-found
instr-returns-in_ok-parts-in-4-clause-found t c = nest_found c.args.depth (tag_if c.args.depth) c.args.code c.args.cursor.now.0 c.branches.new.cursor.0 (c.in_ok-kind-in-4.kind, (instrs_view c.in_ok-parts-in-4.parts.first, instrs_view c.in_ok-parts-in-4.parts.second)) _ c.in-4.is (view_if c.in_ok-kind-in-4.kind c.in_ok-parts-in-4.parts.first c.in_ok-parts-in-4.parts.second) (then_begins SpellsBlockType (SpellsBranches c.args.depth) c.args.cursor.now.0 c.block_type-in-4.new.cursor.0 c.branches.new.cursor.0 c.in_ok-kind-in-4.kind (instrs_view c.in_ok-parts-in-4.parts.first, instrs_view c.in_ok-parts-in-4.parts.second) c.in_ok-kind-in-4.ensures.found c.in_ok-parts-in-4.ensures.found)

pub instr-returns-in_ok-parts-in-4-clause-only : goal.instr-returns-in_ok-parts-in-4-clause-only
instr-returns-in_ok-parts-in-4-clause-only t c = nest_only c.args.depth (tag_if c.args.depth) c.args.code c.args.cursor.now.0 c.branches.new.cursor.0 (c.in_ok-kind-in-4.kind, (instrs_view c.in_ok-parts-in-4.parts.first, instrs_view c.in_ok-parts-in-4.parts.second)) _ c.in-4.is (view_if c.in_ok-kind-in-4.kind c.in_ok-parts-in-4.parts.first c.in_ok-parts-in-4.parts.second) (then_only SpellsBlockType (SpellsBranches c.args.depth) c.args.cursor.now.0 c.block_type-in-4.new.cursor.0 c.branches.new.cursor.0 c.in_ok-kind-in-4.kind (instrs_view c.in_ok-parts-in-4.parts.first, instrs_view c.in_ok-parts-in-4.parts.second) c.in_ok-kind-in-4.ensures.only c.in_ok-parts-in-4.ensures.only)

pub instr-returns-in_err-plain-in_default-clause-malformed : goal.instr-returns-in_err-plain-in_default-clause-malformed
instr-returns-in_err-plain-in_default-clause-malformed t c = let p = err_from_is_err_and c.from_residual-in_err-plain-in_default.result c.from_residual-in_err-plain-in_default.ensures.1 in rw (p.1, p.2) (λ is. λ op rest b. c.in_err-plain-in_default.ensures.malformed is op rest (b.0, b.1.0, b.2))

pub instr-returns-in_ok-plain-in_default-clause-only : goal.instr-returns-in_ok-plain-in_default-clause-only
instr-returns-in_ok-plain-in_default-clause-only t c = λ op rest b. c.in_ok-plain-in_default.ensures.only op rest (b.0, b.1.0, b.2)
