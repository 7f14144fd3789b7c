use Rattle.std.proofs.Common.{◌≡◌, ◌<◌, List, ◌∷◌, length, reverse, sym, ap, ◌∙◌, subst, arith}
use Rattle.std.proofs.lemmas.List.{length-reverse}
use Rattle.wasm_stack.specs.Held.{opened, most_controls}
use Rattle.wasm_stack.specs.Standing.{Standing, held}
use Rattle.wasm_stack.specs.View.{held_of, below, floor_of, count, ops_at, rest_of}
use Rattle.wasm_stack.specs.declared.control.Control.{Control}
use Rattle.wasm_stack.specs.declared.control.Control.TheVariants as control
use Rattle.wasm_stack.proofs.Levels.{levels_counted, few_labels, turned, sound_opened, held_opened}
use Rattle.wasm_stack.proofs.stack.Stack.enter.Goals as goal

pub push_reserved-requires : goal.push_reserved-requires
push_reserved-requires c =
    let i = c.self.inside in
    let controls = reverse i.controls.items in
    let few = subst (λ (z : Standing). length (held z).levels < most_controls) (sym c.self.view_is) c.requires in
    let e = levels_counted controls (length i.values.operands) i.values.waiting i.depth (below (floor_of controls) i.values.operands) c.self.invariant.controls in
    omega (arith, few, length-reverse i.controls.items, c.self.invariant.room, i.controls.ok)

pub overflow_add-self : goal.overflow_add-self
overflow_add-self c =
    let i = c.self.inside in
    let few = few_labels (reverse i.controls.items) (length i.values.operands) i.values.waiting i.depth c.self.invariant.controls in
    omega (arith, length-reverse i.controls.items, i.controls.ok)

pub invariant_of-self : goal.invariant_of-self
invariant_of-self c =
    let i = c.self.inside in
    record {
      controls = sound_opened i.controls.items c.push_reserved.new.self.items i.values i.depth c.args.again c.args.is_loop c.args.has_result c.operand_count-height.result c.operand_count-height.ensures c.push_reserved.ensures.items c.self.invariant.controls;
      room = omega (arith, c.push_reserved.ensures.capacity, c.self.invariant.room);
    }

pub returns : goal.returns
returns c =
    let i = c.self.inside in
    let controls = reverse i.controls.items in
    let new : reverse c.push_reserved.new.self.items ≡ control.Label c.args.again c.args.is_loop c.args.has_result c.operand_count-height.result ∷ controls =
    turned i.controls.items c.push_reserved.new.self.items (control.Label c.args.again c.args.is_loop c.args.has_result c.operand_count-height.result) c.push_reserved.ensures.items in
    ap (λ (z : List Control). held_of z i.values) new
    ∙ ap (λ n. held_of (control.Label c.args.again c.args.is_loop c.args.has_result n ∷ controls) i.values) c.operand_count-height.ensures
    ∙ held_opened controls i.values c.args.again c.args.is_loop c.args.has_result
    ∙ ap (λ (z : Standing). opened (count c.args.has_result) (ops_at c.args.again) (rest_of c.args.is_loop c.args.again) (held z)) c.self.view_is
