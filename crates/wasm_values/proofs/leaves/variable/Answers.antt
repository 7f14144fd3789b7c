use Rattle.std.proofs.Common.{◌≡◌, ℕ, List, ◌∷◌, ◌≤◌, arith}
use Rattle.std.proofs.lemmas.Result.{err_from_is_err_and}
use native.Mathlib.Decide.{dec_le}
use Rattle.byte_fields.specs.Front.{BeginsNone}
use Rattle.wasm_values.specs.Spelling.{SpellsU32}
use Rattle.wasm_values.specs.Instructions.{SpellsOp}
use Rattle.wasm_values.proofs.Opcodes.{op_found, op_only, op_none, op_local_get, op_local_set, op_local_tee, op_global_get, op_global_set}
use Rattle.wasm_values.proofs.Views.{view_local_get, view_local_set, view_local_tee, view_global_get, view_global_set}
use Rattle.wasm_values.proofs.leaves.variable.Goals as goal

-- Without an index there is none of these.
variable_none : (code : ℕ) (behind : List ℕ) → 0x20 ≤ code → code ≤ 0x24 → BeginsNone SpellsU32 behind → BeginsNone SpellsOp (code ∷ behind)
variable_none code behind low high none = elim (dec_le code 0x20) [
  | yes h ↦ op_none op_local_get code behind (omega arith) none
  | no h ↦ elim (dec_le code 0x21) [
    | yes i ↦ op_none op_local_set code behind (omega arith) none
    | no i ↦ elim (dec_le code 0x22) [
      | yes j ↦ op_none op_local_tee code behind (omega arith) none
      | no j ↦ elim (dec_le code 0x23) [
        | yes k ↦ op_none op_global_get code behind (omega arith) none
        | no k ↦ op_none op_global_set code behind (omega arith) none
      ]
    ]
  ]
]

pub returns-in_err-index-clause-malformed : goal.returns-in_err-index-clause-malformed
returns-in_err-index-clause-malformed c = let p = err_from_is_err_and c.from_residual.result c.from_residual.ensures.1 in rw p.1 (λ _. variable_none c.args.code c.args.cursor.now.0 c.requires.low c.requires.high c.in_err-index.ensures.bad)

pub returns-in-32-clause-found : goal.returns-in-32-clause-found
returns-in-32-clause-found c = op_found op_local_get c.args.code c.args.cursor.now.0 c.leb_u32.new.self.0 c.in_ok-index.index _ c.in-32.is (view_local_get c.in_ok-index.index) c.in_ok-index.ensures.found

pub returns-in-32-clause-only : goal.returns-in-32-clause-only
returns-in-32-clause-only c = op_only op_local_get c.args.code c.args.cursor.now.0 c.leb_u32.new.self.0 c.in_ok-index.index _ c.in-32.is (view_local_get c.in_ok-index.index) c.in_ok-index.ensures.only

pub returns-in-33-clause-found : goal.returns-in-33-clause-found
returns-in-33-clause-found c = op_found op_local_set c.args.code c.args.cursor.now.0 c.leb_u32.new.self.0 c.in_ok-index.index _ c.in-33.is (view_local_set c.in_ok-index.index) c.in_ok-index.ensures.found

pub returns-in-33-clause-only : goal.returns-in-33-clause-only
returns-in-33-clause-only c = op_only op_local_set c.args.code c.args.cursor.now.0 c.leb_u32.new.self.0 c.in_ok-index.index _ c.in-33.is (view_local_set c.in_ok-index.index) c.in_ok-index.ensures.only

pub returns-in-34-clause-found : goal.returns-in-34-clause-found
returns-in-34-clause-found c = op_found op_local_tee c.args.code c.args.cursor.now.0 c.leb_u32.new.self.0 c.in_ok-index.index _ c.in-34.is (view_local_tee c.in_ok-index.index) c.in_ok-index.ensures.found

pub returns-in-34-clause-only : goal.returns-in-34-clause-only
returns-in-34-clause-only c = op_only op_local_tee c.args.code c.args.cursor.now.0 c.leb_u32.new.self.0 c.in_ok-index.index _ c.in-34.is (view_local_tee c.in_ok-index.index) c.in_ok-index.ensures.only

pub returns-in-35-clause-found : goal.returns-in-35-clause-found
returns-in-35-clause-found c = op_found op_global_get c.args.code c.args.cursor.now.0 c.leb_u32.new.self.0 c.in_ok-index.index _ c.in-35.is (view_global_get c.in_ok-index.index) c.in_ok-index.ensures.found

pub returns-in-35-clause-only : goal.returns-in-35-clause-only
returns-in-35-clause-only c = op_only op_global_get c.args.code c.args.cursor.now.0 c.leb_u32.new.self.0 c.in_ok-index.index _ c.in-35.is (view_global_get c.in_ok-index.index) c.in_ok-index.ensures.only

pub returns-in_default-clause-found : goal.returns-in_default-clause-found
returns-in_default-clause-found c = let same : c.args.code ≡ 0x24 = omega arith in op_found op_global_set c.args.code c.args.cursor.now.0 c.leb_u32.new.self.0 c.in_ok-index.index _ same (view_global_set c.in_ok-index.index) c.in_ok-index.ensures.found

pub returns-in_default-clause-only : goal.returns-in_default-clause-only
returns-in_default-clause-only c = let same : c.args.code ≡ 0x24 = omega arith in op_only op_global_set c.args.code c.args.cursor.now.0 c.leb_u32.new.self.0 c.in_ok-index.index _ same (view_global_set c.in_ok-index.index) c.in_ok-index.ensures.only
