-- A stack as it stands, and what it holds. Contracts speak of what it holds alone.
use Rattle.std.specs.Prelude.{List, reverse}
use Rattle.call_frames.specs.Stack as frames
use Rattle.wasm_stack.specs.Held.{Held}
use Rattle.wasm_stack.specs.View.{held_of}
use Rattle.wasm_stack.specs.declared.control.Control.{Control}

pub record Standing : Type 0 where
  pub controls : List Control
  pub values : frames.Stack

abbrev pub held : Standing → Held
held standing = held_of (reverse standing.controls) standing.values
