-- The modules of the tests.
use Rattle.std.specs.Prelude.{List, [], ◌∷◌, None}
use Rattle.wasm_values.specs.Syntax.{Ops}
use Rattle.wasm_module.specs.Sections.{Syntax}
use Rattle.wasm_values.specs.declared.exports.Export.{Export}

-- A module that holds nothing.
abbrev pub nothing : Syntax Ops
nothing = record {
  types = [];
  imports = [];
  funcs = [];
  tables = [];
  memories = [];
  globals = [];
  exports = [];
  start = None;
  elements = [];
  codes = [];
  segments = [];
}

-- A module of one function that takes and gives nothing.
abbrev pub one_function : List Export → Ops → Syntax Ops
one_function exported body = record nothing {
  types = record { params = []; result = None } ∷ [];
  funcs = 0 ∷ [];
  exports = exported;
  codes = ([], body) ∷ [];
}
