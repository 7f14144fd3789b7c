use Rattle.std.proofs.Common.{length, reverse, sym, ap, ◌∙◌}
use Rattle.wasm_soundness.specs.Ready.{open_labels}
use Rattle.wasm_stack.specs.Standing.{Standing, held}
use Rattle.wasm_stack.specs.View.{below, floor_of}
use Rattle.wasm_stack.proofs.Levels.{labels_counted}
use Rattle.wasm_stack.proofs.stack.Stack.open_labels.Goals as goal

pub returns : goal.returns
returns c =
    let i = c.self.inside in
    let controls = reverse i.controls.items in
    let e = labels_counted controls (length i.values.operands) i.values.waiting i.depth (below (floor_of controls) i.values.operands) c.self.invariant.controls in
    sym e ∙ ap (λ (z : Standing). open_labels (held z).levels) c.self.view_is
