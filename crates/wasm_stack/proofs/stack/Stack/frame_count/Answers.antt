use Rattle.std.proofs.Common.{length, reverse, sym, ap, ◌∙◌}
use Rattle.wasm_steps.specs.Threads.{frame_count}
use Rattle.wasm_stack.specs.Standing.{Standing, held}
use Rattle.wasm_stack.specs.View.{below, floor_of}
use Rattle.wasm_stack.proofs.Levels.{frames_counted}
use Rattle.wasm_stack.proofs.stack.Stack.frame_count.Goals as goal

pub returns : goal.returns
returns c =
    let i = c.self.inside in
    let controls = reverse i.controls.items in
    let e = frames_counted controls (length i.values.operands) i.values.waiting i.depth (below (floor_of controls) i.values.operands) c.self.invariant.controls in
    c.waiting_count.ensures ∙ sym e ∙ ap (λ (z : Standing). frame_count (held z).levels) c.self.view_is
