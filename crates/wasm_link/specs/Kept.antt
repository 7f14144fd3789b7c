-- What a linked module keeps of the module and the calls.
use Rattle.std.specs.Prelude.{◌≡◌, ◌⊎◌, ℕ, ◌≤◌, List, length, Some, slice_get, All}
use Rattle.wasm_values.specs.Syntax.{Ops}
use Rattle.wasm_module.specs.Sections.{Syntax, module_view}
use Rattle.wasm_module.specs.Limits.{IsWithin}
use Rattle.wasm_values.specs.declared.host_sig.HostSig.{HostSig}
use Rattle.wasm_module.specs.declared.module.Module.{Module}
use Rattle.wasm_values.specs.declared.types.FuncType.{FuncType}
use Rattle.wasm_steps.specs.Program.{Program, imported}
use Rattle.wasm_link.specs.Linking.{Link, IsLinked}
use Rattle.wasm_link.specs.Made.{program_of, IsEntryOf, AreClasses, IsCounted, AreBusy}
use Rattle.wasm_link.specs.declared.entries.Entry.{Entry}

abbrev pub link_of : Syntax Ops → List Entry → ℕ → Link
link_of m entries main = record { whole = m; program = program_of m entries; main = main }

-- The module, an entry for each function, the imported ones first, and the function `loop`.
pub record Kept : Type 0 where
  pub whole : Module
  pub entries : List Entry
  pub main : ℕ

-- the module with its program and its function `loop`
abbrev pub link_view : Kept → Link
link_view kept = link_of (module_view kept.whole) kept.entries kept.main

-- No imported function has more parameters.
abbrev pub TakesAtMost : Program → ℕ → Type 0
TakesAtMost program most =
    (func call : ℕ) (type : FuncType) → slice_get program.functions func ≡ Some (imported type call)
    → length type.params ≤ most

-- It is the most parameters of an imported function, and 0 where none is imported.
pub record IsMost (program : Program) (most : ℕ) : Type 0 where
  pub bound : TakesAtMost program most
  pub met : (most ≡ 0) ⊎ ((func call : ℕ) × (type : FuncType)
      × (slice_get program.functions func ≡ Some (imported type call)) × (length type.params ≡ most))

pub record IsKept (m : Syntax Ops) (functions : List Entry) (kinds : List ℕ)
    (greatest main : ℕ) : Type 0 where
  pub sigs : List HostSig
  pub busy : AreBusy sigs
  pub linked : IsLinked sigs m (link_of m functions main)
  pub within : IsWithin m
  pub counted : IsCounted m
  pub entries : All (IsEntryOf m) functions
  pub classes : AreClasses m.types kinds
  pub most : IsMost (program_of m functions) greatest
