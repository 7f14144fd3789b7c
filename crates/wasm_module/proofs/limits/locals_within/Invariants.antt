use Rattle.std.proofs.Common.{◌≡◌, ◌<◌, ◌≤◌, ℕ, Some, map}
use Rattle.std.specs.Prelude.{slice_get}
use Rattle.wasm_values.specs.Syntax.{Ops}
use Rattle.wasm_module.specs.Entries.{Function, code_view}
use Rattle.wasm_module.specs.Limits.{locals_of}
use Rattle.wasm_module.proofs.limits.locals_within.Given as goal

abbrev pub invariant-each : goal.invariant-each
invariant-each l =
    (i index : ℕ) (function : Function Ops)
    → i < l.at
    → slice_get l.whole.funcs i ≡ Some index
    → slice_get (map code_view l.whole.codes) i ≡ Some function
    → locals_of l.whole.types index function ≤ 65536
