-- What a stack is to contracts, and what its vectors keep.
use Rattle.std.specs.Prelude.{◌≡◌, length, reverse, vec_capacity}
use Rattle.wasm_stack.specs.Held.{most_controls}
use Rattle.wasm_stack.specs.View.{AreControls}
use Rattle.wasm_stack.specs.Standing.{Standing}
use Rattle.wasm_stack.specs.declared.stack.Stack.TheInside.{Inside}

abbrev pub stack_view : Inside → Standing
stack_view stack = record { controls = stack.controls.items; values = stack.values }

pub record IsSound (stack : Inside) : Type 0 where
  pub controls : AreControls (reverse stack.controls.items)
      (length stack.values.operands) stack.values.waiting stack.depth
  pub room : vec_capacity stack.controls ≡ most_controls
