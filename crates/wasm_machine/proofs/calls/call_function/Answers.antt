use Rattle.std.proofs.Common.{sym, ◌∙◌}
use Rattle.wasm_values.specs.View.{items_view}
use Rattle.wasm_stack.specs.Standing.{held}
use Rattle.wasm_stack.specs.View.{ops_at}
use Rattle.wasm_machine.proofs.Called.{same_found, host_called, host_refused, own_runs, frame_fits}
use Rattle.wasm_machine.proofs.calls.call_function.Goals as goal

pub enter_function-requires-clause-levels : goal.enter_function-requires-clause-levels
enter_function-requires-clause-levels g c =
    let callee = c.in-Defined.ensures in
    frame_fits callee.0 callee.2.0 c.in-Defined.more (items_view c.in-Defined.body.now) (ops_at c.args.here) (held c.args.stack.now) callee.2.1 (c.requires.ready callee.0 callee.1)

pub returns-in-Ok-clause-runs : goal.returns-in-Ok-clause-runs
returns-in-Ok-clause-runs g c = λ found before known memory code.
    let callee = c.in-Imported.ensures in
    host_called found c.in-Imported.kind.now c.in-Imported.call (ops_at c.args.here) code (held c.args.stack.now) _ before _ _ c.args.host.now _ (same_found known callee.1 ∙ callee.2) memory c.in-Ok.ensures.answered c.in-Ok.ensures.fits

pub returns-in-Err-clause-runs : goal.returns-in-Err-clause-runs
returns-in-Err-clause-runs g c = λ found before known memory code.
    let callee = c.in-Imported.ensures in
    (host_refused found c.in-Imported.kind.now c.in-Imported.call code (held c.args.stack.now) before c.args.host.now c.in-Err.trap (same_found known callee.1 ∙ callee.2) c.in-Err.ensures.answered.0 c.in-Err.ensures.fits, c.in-Err.ensures.answered.1, c.in-Err.ensures.answered.2 ∙ sym memory, c.in-Err.ensures.answered.3)

pub returns-in-Defined-clause-runs : goal.returns-in-Defined-clause-runs
returns-in-Defined-clause-runs g c = λ found before known memory code.
    let callee = c.in-Defined.ensures in
    own_runs g.H.Host.answers found callee.2.0 c.in-Defined.params c.in-Defined.more c.in-Defined.results (items_view c.in-Defined.body.now) (ops_at c.args.here) code (held c.args.stack.now) _ before _ c.args.host.now c.enter_function.result
    (same_found known callee.1 ∙ callee.2.1) callee.2.2 callee.2.3 memory c.enter_function.ensures.inside c.enter_function.ensures.entered
