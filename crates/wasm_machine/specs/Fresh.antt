-- Instances that nothing was run in.
use Rattle.std.specs.Prelude.{◌≡◌}
use Rattle.wasm_soundness.specs.Typed.{IsTypedStore}
use Rattle.wasm_stack.specs.Held.{nothing}
use Rattle.wasm_stack.specs.Standing.{held}
use Rattle.wasm_link.specs.Kept.{link_view}
use Rattle.wasm_link.specs.Linking.{first_store}
use Rattle.wasm_link.specs.Callee.{store_view}
use Rattle.wasm_machine.specs.Machine.{base_of}
use Rattle.wasm_machine.specs.declared.instance.Instance.{Instance}

-- Its stack is empty, and its store is the first one of the module, whose values are of their types.
pub record IsFresh (instance : Instance) : Type 0 where
  pub empty : held instance.machine.stack ≡ nothing
  pub first : store_view instance.stored ≡ first_store (link_view instance.linked.now).whole
  pub typed : IsTypedStore (base_of instance.linked.now) (store_view instance.stored)
