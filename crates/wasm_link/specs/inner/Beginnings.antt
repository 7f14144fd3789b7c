-- What a linked module keeps of the store that an instance begins with.
use Rattle.std.specs.Prelude.{◌≡◌, ℕ, List, length, None}
use Rattle.wasm_values.specs.Syntax.{Ops}
use Rattle.wasm_module.specs.Sections.{Syntax}
use Rattle.wasm_typing.specs.Context.{module_context}
use Rattle.wasm_soundness.specs.Typed.{IsTypedStore}
use Rattle.wasm_link.specs.Linking.{first_store, first_memory, table_size}
use Rattle.wasm_link.specs.Kept.{IsKept}
use Rattle.wasm_link.specs.inner.Images.{Stands}
use Rattle.wasm_link.specs.declared.entries.Entry.{Entry}
use Rattle.wasm_link.specs.declared.beginning.Beginning.{Beginning}

pub record IsBeginning (m : Syntax Ops) (b : Beginning) : Type 0 where
  pub globals : b.globals.items ≡ (first_store m).globals
  pub memory : Stands 0 b.memory.stretches.items b.memory.values.items (first_store m).memory.bytes
  pub size : length (first_store m).memory.bytes ≡ length (first_memory m.memories).bytes
  pub limit : (first_store m).memory.limit ≡ (first_memory m.memories).limit
  pub table : Stands None b.table.stretches.items b.table.values.items (first_store m).table
  pub count : length (first_store m).table ≡ table_size m.tables
  pub typed : IsTypedStore (module_context m) (first_store m)

-- What the code has of a linked module.
pub record IsReady (m : Syntax Ops) (functions : List Entry) (kinds : List ℕ) (greatest main : ℕ)
    (b : Beginning) : Type 0 where
  pub kept : IsKept m functions kinds greatest main
  pub beginning : IsBeginning m b
