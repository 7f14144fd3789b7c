-- There is one shortest spelling: of each form of values, of instructions, and of each section.
use Rattle.std.proofs.Common.{◌≡◌, ℕ, ℤ, ◌≤◌, List, [], ◌∷◌, ◌++◌, length, length-append, refl, ap, sym, ◌∙◌, subst, arith, Bool, Option, Some, None}
use Rattle.byte_fields.specs.Leb.{SpellsSigned}
use Rattle.byte_fields.proofs.WrittenSigned.{signed_shortest_one}
use Rattle.wasm_values.specs.Spelling.{SpellsU32, Then, SpellsMark, SpellsList, SpellsBytes}
use Rattle.wasm_values.specs.Syntax.{Op, Ops, unreachable, nop, block, loop, if_else, br, br_if, br_table, return, call, call_indirect, drop_value, select, local_get, local_set, local_tee, global_get, global_set, load, store, memory_size, memory_grow, i32_const, i64_const, numeric, float_memory, float_const, float_plain, no_ops, next}
use Rattle.wasm_values.specs.Values.{SpellsName, SpellsValType, spells_i32, spells_i64, spells_f32, spells_f64, SpellsBlockType, spells_no_result, spells_one_result, result_none, result_one, SpellsResult, SpellsFuncType, SpellsBounds, SpellsTableType, SpellsMutable, spells_constant, spells_variable, SpellsGlobalType, SpellsImportDesc, SpellsImport, SpellsExportDesc, SpellsExport}
use Rattle.wasm_values.specs.Instructions.{SpellsOp, SpellsOps, spells_none, spells_next, SpellsExpression}
use Rattle.wasm_module.specs.Entries.{Global, SpellsGlobal, Elements, SpellsElement, SpellsLocalRun, Function, SpellsCode, Data, SpellsSegment}
use Rattle.wasm_module.specs.Sections.{SpellsStart}
use Rattle.wasm_values.specs.declared.types.ValType.{ValType}
use Rattle.wasm_values.specs.declared.types.FuncType.{FuncType}
use Rattle.wasm_values.specs.declared.types.Bounds.{Bounds}
use Rattle.wasm_values.specs.declared.types.GlobalType.{GlobalType}
use Rattle.wasm_values.specs.declared.imports.Import.{Import}
use Rattle.wasm_values.specs.declared.imports.ImportDesc.{ImportDesc}
use Rattle.wasm_values.specs.declared.imports.ImportDesc.TheVariants as import
use Rattle.wasm_values.specs.declared.exports.Export.{Export}
use Rattle.wasm_values.specs.declared.exports.ExportDesc.{ExportDesc}
use Rattle.wasm_values.specs.declared.exports.ExportDesc.TheVariants as export
use Rattle.wasm_module.specs.declared.codes.LocalRun.{LocalRun}
use Rattle.wasm_values.specs.declared.instr.FloatBytes.{FloatBytes}
use Rattle.wasm_values.specs.declared.instr.FloatBytes.TheVariants.{Four, Eight}
use Rattle.wasm_values.proofs.Opcodes.{SpellsLittle}
use Rattle.wasm_encode.specs.inner.Parts.{SpellsBranches, branches_one, branches_two, TypesPart, ImportsPart, FuncsPart, TablesPart, MemoriesPart, GlobalsPart, ExportsPart, StartPart, ElementsPart, CodesPart, SegmentsPart}
use Rattle.wasm_encode.proofs.Types.{open_tagged, closed_tagged, import_func_tagged, import_table_tagged, import_memory_tagged, import_global_tagged, export_func_tagged, export_table_tagged, export_memory_tagged, export_global_tagged}
use Rattle.wasm_encode.proofs.Ops.{unreachable_tagged, nop_tagged, return_tagged, drop_tagged, select_tagged, br_tagged, br_if_tagged, call_tagged, local_get_tagged, local_set_tagged, local_tee_tagged, global_get_tagged, global_set_tagged, br_table_tagged, call_indirect_tagged, memory_size_tagged, memory_grow_tagged, i32_const_tagged, i64_const_tagged, f32_const_tagged, f64_const_tagged, load_tagged, store_tagged, float_memory_tagged, numeric_tagged, float_plain_tagged, block_tagged, loop_tagged, if_tagged}
use Rattle.wasm_encode.proofs.Once.{IsOne, only_one, one_by, nothing_one, mark_one, u32_one, then_one, list_one, bytes_one, tagged_one, sized_one, part_one}

signed_one : (width : ℕ) (n : ℤ) → IsOne ℤ (SpellsSigned width) n
signed_one width n = record { same = λ a b s t. signed_shortest_one width n a b s t }

little_one : (count n : ℕ) → IsOne ℕ (SpellsLittle count) n
little_one count n = only_one (SpellsLittle count) n (λ a b s t. s.1 ∙ sym t.1)

-- Names, types and descriptions.
name_one : (name : List ℕ) → IsOne (List ℕ) SpellsName name
name_one name = record {
  same = λ a b s t. (bytes_one name).same a b (s.0.0, λ other r. s.1 other (r, s.0.1)) (t.0.0, λ other r. t.1 other (r, t.0.1));
}

val_text : {a b : List ℕ} {value : ValType} → SpellsValType a value → SpellsValType b value → a ≡ b
val_text spells_i32 spells_i32 = refl
val_text spells_i64 spells_i64 = refl
val_text spells_f32 spells_f32 = refl
val_text spells_f64 spells_f64 = refl

val_one : (value : ValType) → IsOne ValType SpellsValType value
val_one value = only_one SpellsValType value (λ a b s t. val_text s t)

block_text : {a b : List ℕ} {kind : Option ValType} → SpellsBlockType a kind → SpellsBlockType b kind → a ≡ b
block_text spells_no_result spells_no_result = refl
block_text (spells_one_result s) (spells_one_result t) = val_text s t

block_type_one : (kind : Option ValType) → IsOne (Option ValType) SpellsBlockType kind
block_type_one kind = only_one SpellsBlockType kind (λ a b s t. block_text s t)

no_result : (text : List ℕ) → SpellsResult text None → SpellsList SpellsValType text []
no_result text (results, s, result_none) = s

one_result : (value : ValType) (text : List ℕ) → SpellsResult text (Some value) → SpellsList SpellsValType text (value ∷ [])
one_result value text (results, s, result_one) = s

result_at : (result : Option ValType) → IsOne (Option ValType) SpellsResult result
result_at None = one_by SpellsResult (SpellsList SpellsValType) None [] no_result (λ text s. ([], s, result_none)) (list_one SpellsValType val_one [])
result_at (Some value) = one_by SpellsResult (SpellsList SpellsValType) (Some value) (value ∷ []) (one_result value) (λ text s. (value ∷ [], s, result_one)) (list_one SpellsValType val_one (value ∷ []))

func_type_one : (type : FuncType) → IsOne FuncType SpellsFuncType type
func_type_one type = record {
  same = (then_one (SpellsMark 0x60) (Then (SpellsList SpellsValType) SpellsResult) tt (type.params, type.result) (mark_one 0x60) (then_one (SpellsList SpellsValType) SpellsResult type.params type.result (list_one SpellsValType val_one type.params) (result_at type.result))).same;
}

pair_one : (both : ℕ × ℕ) → IsOne (ℕ × ℕ) (Then SpellsU32 SpellsU32) both
pair_one (first, second) = then_one SpellsU32 SpellsU32 first second (u32_one first) (u32_one second)

bounds_at : (least : ℕ) (most : Option ℕ) → IsOne Bounds SpellsBounds (record { min = least; max = most })
bounds_at least None = tagged_one open_tagged least (u32_one least)
bounds_at least (Some most) = tagged_one closed_tagged (least, most) (pair_one (least, most))

bounds_one : (bounds : Bounds) → IsOne Bounds SpellsBounds bounds
bounds_one bounds = bounds_at bounds.min bounds.max

table_type_one : (bounds : Bounds) → IsOne Bounds SpellsTableType bounds
table_type_one bounds = record { same = (then_one (SpellsMark 0x70) SpellsBounds tt bounds (mark_one 0x70) (bounds_one bounds)).same }

mutable_text : {a b : List ℕ} {mutable : Bool} → SpellsMutable a mutable → SpellsMutable b mutable → a ≡ b
mutable_text spells_constant spells_constant = refl
mutable_text spells_variable spells_variable = refl

global_type_one : (type : GlobalType) → IsOne GlobalType SpellsGlobalType type
global_type_one type = record { same = (then_one SpellsValType SpellsMutable type.value type.mutable (val_one type.value) (only_one SpellsMutable type.mutable (λ a b s t. mutable_text s t))).same }

import_desc_one : (desc : ImportDesc) → IsOne ImportDesc SpellsImportDesc desc
import_desc_one (import.Func index) = tagged_one import_func_tagged index (u32_one index)
import_desc_one (import.Table bounds) = tagged_one import_table_tagged bounds (table_type_one bounds)
import_desc_one (import.Memory bounds) = tagged_one import_memory_tagged bounds (bounds_one bounds)
import_desc_one (import.Global type) = tagged_one import_global_tagged type (global_type_one type)

import_one : (entry : Import) → IsOne Import SpellsImport entry
import_one entry = record {
  same = (then_one SpellsName (Then SpellsName SpellsImportDesc) entry.module (entry.name, entry.desc) (name_one entry.module) (then_one SpellsName SpellsImportDesc entry.name entry.desc (name_one entry.name) (import_desc_one entry.desc))).same;
}

export_desc_one : (desc : ExportDesc) → IsOne ExportDesc SpellsExportDesc desc
export_desc_one (export.Func index) = tagged_one export_func_tagged index (u32_one index)
export_desc_one (export.Table index) = tagged_one export_table_tagged index (u32_one index)
export_desc_one (export.Memory index) = tagged_one export_memory_tagged index (u32_one index)
export_desc_one (export.Global index) = tagged_one export_global_tagged index (u32_one index)

export_one : (entry : Export) → IsOne Export SpellsExport entry
export_one entry = record { same = (then_one SpellsName SpellsExportDesc entry.name entry.desc (name_one entry.name) (export_desc_one entry.desc)).same }

-- Instructions. An expression ends in 0B.
expression_at : (ops : Ops) → IsOne Ops SpellsOps ops → IsOne Ops SpellsExpression ops
expression_at ops k =
    one_by SpellsExpression (Then SpellsOps (SpellsMark 0x0b)) ops (ops, tt) (λ text (bytes, s, e). (bytes, 0x0b ∷ [], s, refl, e)) (λ text (bytes, end, s, mark, e). (bytes, s, e ∙ ap (λ z. bytes ++ z) mark))
    (then_one SpellsOps (SpellsMark 0x0b) ops tt k (mark_one 0x0b))

-- One part of an `if` alone is shorter than two of which the second is empty.
alone_shortest : (first : Ops) {text : List ℕ} → SpellsBranches text (first, no_ops) → ((other : List ℕ) → SpellsBranches other (first, no_ops) → length text ≤ length other) → SpellsExpression text first
alone_shortest first (branches_one {bytes = bytes} s) least = (bytes, s, refl)
alone_shortest first (branches_two {bytes = bytes} {more = more} s t) least =
    absurd (omega (arith, least (bytes ++ 0x0b ∷ []) (branches_one s), length-append bytes (0x0b ∷ []), length-append bytes (0x05 ∷ (more ++ 0x0b ∷ [])), length-append more (0x0b ∷ [])))

alone_spelled : (first : Ops) (text : List ℕ) → SpellsExpression text first → SpellsBranches text (first, no_ops)
alone_spelled first text (bytes, s, e) = rw e (branches_one s)

alone_one : (first : Ops) → IsOne Ops SpellsExpression first → IsOne (Ops × Ops) SpellsBranches (first, no_ops)
alone_one first k = record {
  same = λ a b s t. k.same a b (alone_shortest first s.0 s.1, λ other r. s.1 other (alone_spelled first other r)) (alone_shortest first t.0 t.1, λ other r. t.1 other (alone_spelled first other r));
}

abbrev SpellsBoth : List ℕ → Ops × (Unit {0} × Ops) → Type 0
SpellsBoth = Then SpellsOps (Then (SpellsMark 0x05) SpellsExpression)

both_apart : (first : Ops) (op : Op) (ops : Ops) (text : List ℕ) → SpellsBranches text (first, next op ops) → SpellsBoth text (first, (tt, next op ops))
both_apart first op ops text (branches_two {bytes = bytes} {more = more} s t) =
    (bytes, 0x05 ∷ (more ++ 0x0b ∷ []), s, (0x05 ∷ [], more ++ 0x0b ∷ [], refl, (more, t, refl), refl), refl)

both_together : (first second : Ops) (text : List ℕ) → SpellsBoth text (first, (tt, second)) → SpellsBranches text (first, second)
both_together first second text (bytes, back, s, (mark, end, e, (more, t, f), g), h) = rw (h, g, e, f) (branches_two s t)

branches_at : (first second : Ops) → IsOne Ops SpellsOps first → IsOne Ops SpellsOps second → IsOne (Ops × Ops) SpellsBranches (first, second)
branches_at first no_ops k l = alone_one first (expression_at first k)
branches_at first (next op ops) k l =
    one_by SpellsBranches SpellsBoth (first, next op ops) (first, (tt, next op ops)) (both_apart first op ops) (both_together first (next op ops))
    (then_one SpellsOps (Then (SpellsMark 0x05) SpellsExpression) first (tt, next op ops) k (then_one (SpellsMark 0x05) SpellsExpression tt (next op ops) (mark_one 0x05) (expression_at (next op ops) l)))

ops_apart : (op : Op) (ops : Ops) (text : List ℕ) → SpellsOps text (next op ops) → Then SpellsOp SpellsOps text (op, ops)
ops_apart op ops text (spells_next {text = front} {more = more} s t) = (front, more, s, t, refl)

ops_together : (op : Op) (ops : Ops) (text : List ℕ) → Then SpellsOp SpellsOps text (op, ops) → SpellsOps text (next op ops)
ops_together op ops text (front, more, s, t, e) = rw e (spells_next s t)

no_text : (text : List ℕ) → SpellsOps text no_ops → text ≡ []
no_text text spells_none = refl

constant_one : (bytes : FloatBytes) → IsOne Op SpellsOp (float_const bytes)
constant_one (Four number) = tagged_one f32_const_tagged number (little_one 4 number)
constant_one (Eight number) = tagged_one f64_const_tagged number (little_one 8 number)

load_one : (code align offset : ℕ) → IsOne Op SpellsOp (load code align offset)
load_one code align offset = record { same = λ a b s t. (tagged_one (load_tagged a code align offset s.0) (align, offset) (pair_one (align, offset))).same a b s t }

store_one : (code align offset : ℕ) → IsOne Op SpellsOp (store code align offset)
store_one code align offset = record { same = λ a b s t. (tagged_one (store_tagged a code align offset s.0) (align, offset) (pair_one (align, offset))).same a b s t }

float_memory_one : (code align offset : ℕ) → IsOne Op SpellsOp (float_memory code align offset)
float_memory_one code align offset = record { same = λ a b s t. (tagged_one (float_memory_tagged a code align offset s.0) (align, offset) (pair_one (align, offset))).same a b s t }

numeric_one : (code : ℕ) → IsOne Op SpellsOp (numeric code)
numeric_one code = record { same = λ a b s t. (tagged_one (numeric_tagged a code s.0) tt nothing_one).same a b s t }

float_plain_one : (code : ℕ) → IsOne Op SpellsOp (float_plain code)
float_plain_one code = record { same = λ a b s t. (tagged_one (float_plain_tagged a code s.0) tt nothing_one).same a b s t }

mutual
  op_one : (op : Op) → IsOne Op SpellsOp op
  op_one unreachable = tagged_one unreachable_tagged tt nothing_one
  op_one nop = tagged_one nop_tagged tt nothing_one
  op_one (block kind ops) = tagged_one block_tagged (kind, ops) (then_one SpellsBlockType SpellsExpression kind ops (block_type_one kind) (expression_at ops (ops_one ops)))
  op_one (loop kind ops) = tagged_one loop_tagged (kind, ops) (then_one SpellsBlockType SpellsExpression kind ops (block_type_one kind) (expression_at ops (ops_one ops)))
  op_one (if_else kind first second) = tagged_one if_tagged (kind, (first, second)) (then_one SpellsBlockType SpellsBranches kind (first, second) (block_type_one kind) (branches_at first second (ops_one first) (ops_one second)))
  op_one (br label) = tagged_one br_tagged label (u32_one label)
  op_one (br_if label) = tagged_one br_if_tagged label (u32_one label)
  op_one (br_table labels last) = tagged_one br_table_tagged (labels, last) (then_one (SpellsList SpellsU32) SpellsU32 labels last (list_one SpellsU32 u32_one labels) (u32_one last))
  op_one return = tagged_one return_tagged tt nothing_one
  op_one (call func) = tagged_one call_tagged func (u32_one func)
  op_one (call_indirect kind) = tagged_one call_indirect_tagged (kind, tt) (then_one SpellsU32 (SpellsMark 0x00) kind tt (u32_one kind) (mark_one 0x00))
  op_one drop_value = tagged_one drop_tagged tt nothing_one
  op_one select = tagged_one select_tagged tt nothing_one
  op_one (local_get local) = tagged_one local_get_tagged local (u32_one local)
  op_one (local_set local) = tagged_one local_set_tagged local (u32_one local)
  op_one (local_tee local) = tagged_one local_tee_tagged local (u32_one local)
  op_one (global_get global) = tagged_one global_get_tagged global (u32_one global)
  op_one (global_set global) = tagged_one global_set_tagged global (u32_one global)
  op_one (load code align offset) = load_one code align offset
  op_one (store code align offset) = store_one code align offset
  op_one memory_size = tagged_one memory_size_tagged tt (mark_one 0x00)
  op_one memory_grow = tagged_one memory_grow_tagged tt (mark_one 0x00)
  op_one (i32_const number) = tagged_one i32_const_tagged number (signed_one 32 number)
  op_one (i64_const number) = tagged_one i64_const_tagged number (signed_one 64 number)
  op_one (numeric code) = numeric_one code
  op_one (float_memory code align offset) = float_memory_one code align offset
  op_one (float_const bytes) = constant_one bytes
  op_one (float_plain code) = float_plain_one code

  ops_one : (ops : Ops) → IsOne Ops SpellsOps ops
  ops_one no_ops = only_one SpellsOps no_ops (λ a b s t. no_text a s ∙ sym (no_text b t))
  ops_one (next op ops) = one_by SpellsOps (Then SpellsOp SpellsOps) (next op ops) (op, ops) (ops_apart op ops) (ops_together op ops) (then_one SpellsOp SpellsOps op ops (op_one op) (ops_one ops))

expression_one : (ops : Ops) → IsOne Ops SpellsExpression ops
expression_one ops = expression_at ops (ops_one ops)

-- Entries that hold instructions.
global_one : (entry : Global Ops) → IsOne (Global Ops) (SpellsGlobal SpellsExpression) entry
global_one (type, init) = then_one SpellsGlobalType SpellsExpression type init (global_type_one type) (expression_one init)

element_one : (entry : Elements Ops) → IsOne (Elements Ops) (SpellsElement SpellsExpression) entry
element_one (table, (offset, funcs)) = then_one SpellsU32 (Then SpellsExpression (SpellsList SpellsU32)) table (offset, funcs) (u32_one table) (then_one SpellsExpression (SpellsList SpellsU32) offset funcs (expression_one offset) (list_one SpellsU32 u32_one funcs))

run_one : (run : LocalRun) → IsOne LocalRun SpellsLocalRun run
run_one run = record { same = (then_one SpellsU32 SpellsValType run.count run.value (u32_one run.count) (val_one run.value)).same }

code_one : (entry : Function Ops) → IsOne (Function Ops) (SpellsCode SpellsExpression) entry
code_one (locals, body) = sized_one (Then (SpellsList SpellsLocalRun) SpellsExpression) (locals, body) (then_one (SpellsList SpellsLocalRun) SpellsExpression locals body (list_one SpellsLocalRun run_one locals) (expression_one body))

segment_one : (entry : Data Ops) → IsOne (Data Ops) (SpellsSegment SpellsExpression) entry
segment_one (memory, (offset, bytes)) = then_one SpellsU32 (Then SpellsExpression SpellsBytes) memory (offset, bytes) (u32_one memory) (then_one SpellsExpression SpellsBytes offset bytes (expression_one offset) (bytes_one bytes))

-- Sections.
pub types_one : (list : List FuncType) → IsOne (List FuncType) TypesPart list
types_one list = part_one 1 (SpellsList SpellsFuncType) [] list (list_one SpellsFuncType func_type_one list)

pub imports_one : (list : List Import) → IsOne (List Import) ImportsPart list
imports_one list = part_one 2 (SpellsList SpellsImport) [] list (list_one SpellsImport import_one list)

pub funcs_one : (list : List ℕ) → IsOne (List ℕ) FuncsPart list
funcs_one list = part_one 3 (SpellsList SpellsU32) [] list (list_one SpellsU32 u32_one list)

pub tables_one : (list : List Bounds) → IsOne (List Bounds) TablesPart list
tables_one list = part_one 4 (SpellsList SpellsTableType) [] list (list_one SpellsTableType table_type_one list)

pub memories_one : (list : List Bounds) → IsOne (List Bounds) MemoriesPart list
memories_one list = part_one 5 (SpellsList SpellsBounds) [] list (list_one SpellsBounds bounds_one list)

pub globals_one : (list : List (Global Ops)) → IsOne (List (Global Ops)) GlobalsPart list
globals_one list = part_one 6 (SpellsList (SpellsGlobal SpellsExpression)) [] list (list_one (SpellsGlobal SpellsExpression) global_one list)

pub exports_one : (list : List Export) → IsOne (List Export) ExportsPart list
exports_one list = part_one 7 (SpellsList SpellsExport) [] list (list_one SpellsExport export_one list)

start_index : (func other : ℕ) → ◌≡◌ {A = Option ℕ} (Some func) (Some other) → other ≡ func
start_index func other e = cc

start_apart : (func : ℕ) (text : List ℕ) → SpellsStart text (Some func) → SpellsU32 text func
start_apart func text (other, s, e) = let P : ℕ → Type 0 = λ z. SpellsU32 text z in subst P (start_index func other e) s

no_start : (func : ℕ) → ◌≡◌ {A = Option ℕ} None (Some func) → ⊥
no_start func e = cc

start_at : (start : Option ℕ) → IsOne (Option ℕ) SpellsStart start
start_at None = only_one SpellsStart None (λ a b s t. absurd (no_start s.0 s.2))
start_at (Some func) = one_by SpellsStart SpellsU32 (Some func) func (start_apart func) (λ text s. (func, s, refl)) (u32_one func)

pub start_one : (start : Option ℕ) → IsOne (Option ℕ) StartPart start
start_one start = part_one 8 SpellsStart None start (start_at start)

pub elements_one : (list : List (Elements Ops)) → IsOne (List (Elements Ops)) ElementsPart list
elements_one list = part_one 9 (SpellsList (SpellsElement SpellsExpression)) [] list (list_one (SpellsElement SpellsExpression) element_one list)

pub codes_one : (list : List (Function Ops)) → IsOne (List (Function Ops)) CodesPart list
codes_one list = part_one 10 (SpellsList (SpellsCode SpellsExpression)) [] list (list_one (SpellsCode SpellsExpression) code_one list)

pub segments_one : (list : List (Data Ops)) → IsOne (List (Data Ops)) SegmentsPart list
segments_one list = part_one 11 (SpellsList (SpellsSegment SpellsExpression)) [] list (list_one (SpellsSegment SpellsExpression) segment_one list)
