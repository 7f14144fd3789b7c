-- What a context gains, behind what it has.
use Rattle.std.specs.Prelude.{◌≡◌, ℕ, List, ◌++◌}
use Rattle.wasm_values.specs.declared.types.Bounds.{Bounds}
use Rattle.wasm_values.specs.declared.types.GlobalType.{GlobalType}
use Rattle.wasm_typing.specs.Context.{Context}

pub record Adds (old new : Context) (more_funcs : List ℕ) (more_tables more_memories : List Bounds)
    (more_globals : List GlobalType) : Type 0 where
  pub types : new.types ≡ old.types
  pub funcs : new.funcs ≡ old.funcs ++ more_funcs
  pub tables : new.tables ≡ old.tables ++ more_tables
  pub memories : new.memories ≡ old.memories ++ more_memories
  pub globals : new.globals ≡ old.globals ++ more_globals
