-- What the code has of linked modules.
use Rattle.std.specs.Prelude.{◌≡◌, ℕ, [], length, None, Some, slice_get}
use Rattle.wasm_values.specs.Syntax.{Ops}
use Rattle.wasm_values.specs.View.{items_view}
use Rattle.wasm_values.specs.declared.types.FuncType.{FuncType}
use Rattle.wasm_steps.specs.Program.{Function, imported, defined, Program, Store}
use Rattle.wasm_steps.specs.Threads.{arity}
use Rattle.wasm_link.specs.declared.linked.Callee.{Callee}
use Rattle.wasm_link.specs.declared.linked.Callee.TheVariants as callee
use Rattle.wasm_link.specs.declared.stored.Stored.{Stored}

-- It stands for the function.
abbrev pub IsCallee : Function → Callee → Type 0
IsCallee found (callee.Imported call kind) = found ≡ imported kind.now call
IsCallee found (callee.Defined params more results body) =
    (type : FuncType) × (found ≡ defined type more (items_view body.now)) × (params ≡ length type.params)
    × (results ≡ arity type.result)

-- A function of the module without parameters and result, as one that is invoked from outside.
pub record IsEntry (program : Program) (func : ℕ) : Type 0 where
  pub type : FuncType
  pub more : ℕ
  pub body : Ops
  pub known : slice_get program.functions func ≡ Some (defined type more body)
  pub params : type.params ≡ []
  pub result : type.result ≡ None

-- the store that its parts stand for
abbrev pub store_view : Stored → Store
store_view stored = record { memory = stored.pages; globals = stored.globals; table = stored.table }
