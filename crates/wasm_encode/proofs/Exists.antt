-- A module that is encodable is spelled by some bytes.
use Rattle.std.proofs.Common.{◌≡◌, ℕ, ◌+◌, ◌*◌, ◌^◌, ◌<◌, ◌≤◌, List, [], ◌∷◌, ◌++◌, length, length-append, refl, arith, All, Bool, true, false, Option, Some, None}
use Rattle.std.specs.Prelude.{sum_by}
use Rattle.std.specs.Str.{IsUtf8}
use Rattle.wasm_values.specs.Spelling.{SpellsU32, Then, SpellsMark, SpellsList, SpellsBytes}
use Rattle.wasm_values.specs.Syntax.{Op, Ops, unreachable, nop, block, loop, if_else, br, br_if, br_table, return, call, call_indirect, drop_value, select, local_get, local_set, local_tee, global_get, global_set, load, store, memory_size, memory_grow, i32_const, i64_const, numeric, float_memory, float_const, float_plain, no_ops, next}
use Rattle.wasm_values.specs.Values.{SpellsName, SpellsValType, spells_i32, spells_i64, spells_f32, spells_f64, SpellsBlockType, spells_no_result, spells_one_result, result_none, result_one, SpellsResult, SpellsFuncType, SpellsBounds, SpellsTableType, SpellsMutable, spells_constant, spells_variable, SpellsGlobalType, SpellsImportDesc, SpellsImport, SpellsExportDesc, SpellsExport}
use Rattle.wasm_values.specs.Instructions.{SpellsOp, SpellsOps, IsMemory, is_load, is_store, is_float_memory, spells_unreachable, spells_nop, spells_return, spells_drop, spells_select, spells_memory, spells_memory_size, spells_memory_grow, spells_f32_const, spells_f64_const, spells_numeric, spells_float_plain, spells_none, spells_next, SpellsExpression}
use Rattle.wasm_module.specs.Entries.{Global, SpellsGlobal, Elements, SpellsElement, SpellsLocalRun, Function, SpellsCode, Data, SpellsSegment}
use Rattle.wasm_module.specs.Sections.{Syntax, SpellsStart, Spells}
use Rattle.wasm_values.specs.declared.types.ValType.{ValType}
use Rattle.wasm_values.specs.declared.types.ValType.TheVariants.{I32, I64, F32, F64}
use Rattle.wasm_values.specs.declared.types.FuncType.{FuncType}
use Rattle.wasm_values.specs.declared.types.Bounds.{Bounds}
use Rattle.wasm_values.specs.declared.types.GlobalType.{GlobalType}
use Rattle.wasm_values.specs.declared.imports.Import.{Import}
use Rattle.wasm_values.specs.declared.imports.ImportDesc.{ImportDesc}
use Rattle.wasm_values.specs.declared.imports.ImportDesc.TheVariants as import
use Rattle.wasm_values.specs.declared.exports.Export.{Export}
use Rattle.wasm_values.specs.declared.exports.ExportDesc.{ExportDesc}
use Rattle.wasm_values.specs.declared.exports.ExportDesc.TheVariants as export
use Rattle.wasm_module.specs.declared.codes.LocalRun.{LocalRun}
use Rattle.wasm_values.specs.declared.instr.FloatBytes.{FloatBytes}
use Rattle.wasm_values.specs.declared.instr.FloatBytes.TheVariants.{Four, Eight}
use Rattle.wasm_encode.specs.inner.Gains.{IsSpelled}
use Rattle.wasm_encode.specs.inner.Parts.{SpellsBranches, branches_two, SpellsPart, part_absent, StartPart}
use Rattle.wasm_encode.specs.Encodable.{IsU32, IsFloat, AreLimits, IsInstruction, AreInstructions, IsImported, IsExported, op_weight, ops_weight, weight, IsEncodable}
use Rattle.wasm_encode.proofs.Types.{open_tagged, closed_tagged, import_func_tagged, import_table_tagged, import_memory_tagged, import_global_tagged, export_func_tagged, export_table_tagged, export_memory_tagged, export_global_tagged}
use Rattle.wasm_encode.proofs.Ops.{br_tagged, br_if_tagged, call_tagged, local_get_tagged, local_set_tagged, local_tee_tagged, global_get_tagged, global_set_tagged, br_table_tagged, call_indirect_tagged, i32_const_tagged, i64_const_tagged, block_tagged, loop_tagged, if_tagged}
use Rattle.wasm_encode.proofs.Texts.{HasText, text_wider, u32_text, signed_text, mark_text, then_text, tagged_text, list_text, list_same, bytes_text, sized_text, part_text}
use Rattle.wasm_encode.proofs.Whole.{whole_text}

-- Names, types and descriptions.
name_text : (name : List ℕ) → IsUtf8 name → length name < 2 ^ 32 → HasText (List ℕ) SpellsName name (5 + length name)
name_text name utf8 h = let bytes = bytes_text name h in record { text = bytes.text; spelled = (bytes.spelled, utf8); short = bytes.short }

val_text : (value : ValType) → HasText ValType SpellsValType value 1
val_text I32 = record { text = 0x7f ∷ []; spelled = spells_i32; short = omega arith }
val_text I64 = record { text = 0x7e ∷ []; spelled = spells_i64; short = omega arith }
val_text F32 = record { text = 0x7d ∷ []; spelled = spells_f32; short = omega arith }
val_text F64 = record { text = 0x7c ∷ []; spelled = spells_f64; short = omega arith }

block_type_text : (kind : Option ValType) → HasText (Option ValType) SpellsBlockType kind 1
block_type_text None = record { text = 0x40 ∷ []; spelled = spells_no_result; short = omega arith }
block_type_text (Some value) = let one = val_text value in record { text = one.text; spelled = spells_one_result one.spelled; short = one.short }

abbrev Always : ValType → Type 0
Always value = Unit {0}

values_text : (values : List ValType) → length values < 2 ^ 32 → HasText (List ValType) (SpellsList SpellsValType) values (5 + 1 * length values)
values_text values h = list_same SpellsValType Always 1 (omega arith) (λ v p. val_text v) values (λ k d lt. tt) (omega (arith, h))

result_text : (result : Option ValType) → HasText (Option ValType) SpellsResult result 6
result_text None = let none = values_text [] (omega arith) in record { text = none.text; spelled = ([], none.spelled, result_none); short = omega (arith, none.short) }
result_text (Some value) = let one = values_text (value ∷ []) (omega arith) in record { text = one.text; spelled = (value ∷ [], one.spelled, result_one); short = one.short }

func_type_text : (type : FuncType) → 32 + length type.params < 2 ^ 32 → HasText FuncType SpellsFuncType type (32 + length type.params)
func_type_text type h =
    let inner = then_text (SpellsMark 0x60) (Then (SpellsList SpellsValType) SpellsResult) tt (type.params, type.result) 1 (5 + 1 * length type.params + 6) (mark_text 0x60) (then_text (SpellsList SpellsValType) SpellsResult type.params type.result (5 + 1 * length type.params) 6 (values_text type.params (omega arith)) (result_text type.result)) in
    record { text = inner.text; spelled = inner.spelled; short = omega (arith, inner.short) }

pair_text : (first second : ℕ) → IsU32 first → IsU32 second → HasText (ℕ × ℕ) (Then SpellsU32 SpellsU32) (first, second) 10
pair_text first second p q = then_text SpellsU32 SpellsU32 first second 5 5 (u32_text first p) (u32_text second q)

limits_at : (least : ℕ) (most : Option ℕ) → IsU32 least → ((number : ℕ) → most ≡ Some number → IsU32 number) → HasText Bounds SpellsBounds (record { min = least; max = most }) 11
limits_at least None p q = text_wider (tagged_text open_tagged least 5 (u32_text least p)) 11 (omega arith)
limits_at least (Some most) p q = tagged_text closed_tagged (least, most) 10 (pair_text least most p (q most refl))

limits_text : (bounds : Bounds) → AreLimits bounds → HasText Bounds SpellsBounds bounds 11
limits_text bounds (p, q) = limits_at bounds.min bounds.max p q

table_text : (bounds : Bounds) → AreLimits bounds → HasText Bounds SpellsTableType bounds 12
table_text bounds h = let inner = then_text (SpellsMark 0x70) SpellsBounds tt bounds 1 11 (mark_text 0x70) (limits_text bounds h) in record { text = inner.text; spelled = inner.spelled; short = inner.short }

mutable_text : (mutable : Bool) → HasText Bool SpellsMutable mutable 1
mutable_text false = record { text = 0x00 ∷ []; spelled = spells_constant; short = omega arith }
mutable_text true = record { text = 0x01 ∷ []; spelled = spells_variable; short = omega arith }

global_type_text : (type : GlobalType) → HasText GlobalType SpellsGlobalType type 2
global_type_text type = let inner = then_text SpellsValType SpellsMutable type.value type.mutable 1 1 (val_text type.value) (mutable_text type.mutable) in record { text = inner.text; spelled = inner.spelled; short = inner.short }

imported_text : (desc : ImportDesc) → IsImported desc → HasText ImportDesc SpellsImportDesc desc 13
imported_text (import.Func index) h = text_wider (tagged_text import_func_tagged index 5 (u32_text index h)) 13 (omega arith)
imported_text (import.Table bounds) h = tagged_text import_table_tagged bounds 12 (table_text bounds h)
imported_text (import.Memory bounds) h = text_wider (tagged_text import_memory_tagged bounds 11 (limits_text bounds h)) 13 (omega arith)
imported_text (import.Global type) h = text_wider (tagged_text import_global_tagged type 2 (global_type_text type)) 13 (omega arith)

abbrev import_weight : Import → ℕ
import_weight entry = 32 + (length entry.module + length entry.name)

import_text : (entry : Import) → IsUtf8 entry.module × IsUtf8 entry.name × IsImported entry.desc → import_weight entry < 2 ^ 32 → HasText Import SpellsImport entry (import_weight entry)
import_text entry (module_utf8, name_utf8, desc) h =
    let inner = then_text SpellsName (Then SpellsName SpellsImportDesc) entry.module (entry.name, entry.desc) (5 + length entry.module) (5 + length entry.name + 13) (name_text entry.module module_utf8 (omega arith)) (then_text SpellsName SpellsImportDesc entry.name entry.desc (5 + length entry.name) 13 (name_text entry.name name_utf8 (omega arith)) (imported_text entry.desc desc)) in
    record { text = inner.text; spelled = inner.spelled; short = omega (arith, inner.short) }

exported_text : (desc : ExportDesc) → IsExported desc → HasText ExportDesc SpellsExportDesc desc 6
exported_text (export.Func index) h = tagged_text export_func_tagged index 5 (u32_text index h)
exported_text (export.Table index) h = tagged_text export_table_tagged index 5 (u32_text index h)
exported_text (export.Memory index) h = tagged_text export_memory_tagged index 5 (u32_text index h)
exported_text (export.Global index) h = tagged_text export_global_tagged index 5 (u32_text index h)

export_text : (entry : Export) → IsUtf8 entry.name × IsExported entry.desc → 32 + length entry.name < 2 ^ 32 → HasText Export SpellsExport entry (32 + length entry.name)
export_text entry (utf8, desc) h =
    let inner = then_text SpellsName SpellsExportDesc entry.name entry.desc (5 + length entry.name) 6 (name_text entry.name utf8 (omega arith)) (exported_text entry.desc desc) in
    record { text = inner.text; spelled = inner.spelled; short = omega (arith, inner.short) }

-- Instructions.
has : (op : Op) (text : List ℕ) → SpellsOp text op → length text ≤ 16 → HasText Op SpellsOp op 16
has op text s h = record { text = text; spelled = s; short = h }

memory_text : (code align offset : ℕ) (op : Op) → IsMemory code align offset op → IsU32 align → IsU32 offset → HasText Op SpellsOp op 16
memory_text code align offset op kind p q = let inner = pair_text align offset p q in has op (code ∷ inner.text) (spells_memory kind inner.spelled) (omega (arith, inner.short))

float_text : (bytes : FloatBytes) → IsFloat bytes → HasText Op SpellsOp (float_const bytes) 16
float_text (Four number) h = has (float_const (Four number)) _ (spells_f32_const h) (omega arith)
float_text (Eight number) h = has (float_const (Eight number)) _ (spells_f64_const h) (omega arith)

indices_text : (labels : List ℕ) → All IsU32 labels → 5 * length labels < 2 ^ 32 → HasText (List ℕ) (SpellsList SpellsU32) labels (5 + 5 * length labels)
indices_text labels h small = list_same SpellsU32 IsU32 5 (omega arith) u32_text labels h small

table_branch_text : (labels : List ℕ) (last : ℕ) → All IsU32 labels → IsU32 last → 16 + 5 * length labels < 2 ^ 32 → HasText Op SpellsOp (br_table labels last) (16 + 5 * length labels)
table_branch_text labels last p q h =
    text_wider (tagged_text br_table_tagged (labels, last) (5 + 5 * length labels + 5) (then_text (SpellsList SpellsU32) SpellsU32 labels last (5 + 5 * length labels) 5 (indices_text labels p (omega arith)) (u32_text last q))) (16 + 5 * length labels) (omega arith)

expression_text : (ops : Ops) (a : ℕ) → HasText Ops SpellsOps ops a → HasText Ops SpellsExpression ops (a + 1)
expression_text ops a s = record { text = s.text ++ 0x0b ∷ []; spelled = (s.text, s.spelled, refl); short = omega (arith, s.short, length-append s.text (0x0b ∷ [])) }

branches_text : (first second : Ops) (a b : ℕ) → HasText Ops SpellsOps first a → HasText Ops SpellsOps second b → HasText (Ops × Ops) SpellsBranches (first, second) (a + b + 2)
branches_text first second a b s t = record {
  text = s.text ++ 0x05 ∷ (t.text ++ 0x0b ∷ []);
  spelled = branches_two s.spelled t.spelled;
  short = omega (arith, s.short, t.short, length-append s.text (0x05 ∷ (t.text ++ 0x0b ∷ [])), length-append t.text (0x0b ∷ []));
}

nest_text : (kind : Option ValType) (ops : Ops) (a : ℕ) → HasText Ops SpellsOps ops a → HasText (Option ValType × Ops) (Then SpellsBlockType SpellsExpression) (kind, ops) (1 + (a + 1))
nest_text kind ops a s = then_text SpellsBlockType SpellsExpression kind ops 1 (a + 1) (block_type_text kind) (expression_text ops a s)

mutual
  op_text : (op : Op) → IsInstruction op → op_weight op < 2 ^ 32 → HasText Op SpellsOp op (op_weight op)
  op_text unreachable h small = has unreachable _ spells_unreachable (omega arith)
  op_text nop h small = has nop _ spells_nop (omega arith)
  op_text (block kind ops) h small = text_wider (tagged_text block_tagged (kind, ops) (1 + (ops_weight ops + 1)) (nest_text kind ops (ops_weight ops) (ops_text ops h (omega arith)))) (16 + ops_weight ops) (omega arith)
  op_text (loop kind ops) h small = text_wider (tagged_text loop_tagged (kind, ops) (1 + (ops_weight ops + 1)) (nest_text kind ops (ops_weight ops) (ops_text ops h (omega arith)))) (16 + ops_weight ops) (omega arith)
  op_text (if_else kind first second) (h, g) small = text_wider (tagged_text if_tagged (kind, (first, second)) (1 + (ops_weight first + ops_weight second + 2)) (then_text SpellsBlockType SpellsBranches kind (first, second) 1 (ops_weight first + ops_weight second + 2) (block_type_text kind) (branches_text first second (ops_weight first) (ops_weight second) (ops_text first h (omega arith)) (ops_text second g (omega arith))))) (16 + (ops_weight first + ops_weight second)) (omega arith)
  op_text (br label) h small = text_wider (tagged_text br_tagged label 5 (u32_text label h)) 16 (omega arith)
  op_text (br_if label) h small = text_wider (tagged_text br_if_tagged label 5 (u32_text label h)) 16 (omega arith)
  op_text (br_table labels last) (h, g) small = table_branch_text labels last h g small
  op_text return h small = has return _ spells_return (omega arith)
  op_text (call func) h small = text_wider (tagged_text call_tagged func 5 (u32_text func h)) 16 (omega arith)
  op_text (call_indirect kind) h small = text_wider (tagged_text call_indirect_tagged (kind, tt) 6 (then_text SpellsU32 (SpellsMark 0x00) kind tt 5 1 (u32_text kind h) (mark_text 0x00))) 16 (omega arith)
  op_text drop_value h small = has drop_value _ spells_drop (omega arith)
  op_text select h small = has select _ spells_select (omega arith)
  op_text (local_get local) h small = text_wider (tagged_text local_get_tagged local 5 (u32_text local h)) 16 (omega arith)
  op_text (local_set local) h small = text_wider (tagged_text local_set_tagged local 5 (u32_text local h)) 16 (omega arith)
  op_text (local_tee local) h small = text_wider (tagged_text local_tee_tagged local 5 (u32_text local h)) 16 (omega arith)
  op_text (global_get global) h small = text_wider (tagged_text global_get_tagged global 5 (u32_text global h)) 16 (omega arith)
  op_text (global_set global) h small = text_wider (tagged_text global_set_tagged global 5 (u32_text global h)) 16 (omega arith)
  op_text (load code align offset) (kind, p, q) small = memory_text code align offset (load code align offset) (is_load kind) p q
  op_text (store code align offset) (kind, p, q) small = memory_text code align offset (store code align offset) (is_store kind) p q
  op_text memory_size h small = has memory_size _ spells_memory_size (omega arith)
  op_text memory_grow h small = has memory_grow _ spells_memory_grow (omega arith)
  op_text (i32_const number) h small = text_wider (tagged_text i32_const_tagged number 5 (signed_text 5 32 number (omega arith) (omega arith) h)) 16 (omega arith)
  op_text (i64_const number) h small = text_wider (tagged_text i64_const_tagged number 10 (signed_text 10 64 number (omega arith) (omega arith) h)) 16 (omega arith)
  op_text (numeric code) h small = has (numeric code) _ (spells_numeric h) (omega arith)
  op_text (float_memory code align offset) (kind, p, q) small = memory_text code align offset (float_memory code align offset) (is_float_memory kind) p q
  op_text (float_const bytes) h small = float_text bytes h
  op_text (float_plain code) h small = has (float_plain code) _ (spells_float_plain h) (omega arith)

  ops_text : (ops : Ops) → AreInstructions ops → ops_weight ops < 2 ^ 32 → HasText Ops SpellsOps ops (ops_weight ops)
  ops_text no_ops h small = record { text = []; spelled = spells_none; short = omega arith }
  ops_text (next op ops) (h, g) small =
      let first = op_text op h (omega arith) in
      let rest = ops_text ops g (omega arith) in
      record { text = first.text ++ rest.text; spelled = spells_next first.spelled rest.spelled; short = omega (arith, first.short, rest.short, length-append first.text rest.text) }

-- Entries that hold instructions.
held_text : (ops : Ops) → AreInstructions ops → ops_weight ops < 2 ^ 32 → HasText Ops SpellsExpression ops (ops_weight ops + 1)
held_text ops h small = expression_text ops (ops_weight ops) (ops_text ops h small)

global_text : (entry : Global Ops) → AreInstructions entry.1 → 32 + ops_weight entry.1 < 2 ^ 32 → HasText (Global Ops) (SpellsGlobal SpellsExpression) entry (32 + ops_weight entry.1)
global_text (type, init) h small = text_wider (then_text SpellsGlobalType SpellsExpression type init 2 (ops_weight init + 1) (global_type_text type) (held_text init h (omega arith))) (32 + ops_weight init) (omega arith)

element_text : (entry : Elements Ops) → IsU32 entry.0 × AreInstructions entry.1.0 × All IsU32 entry.1.1 → 32 + (ops_weight entry.1.0 + 5 * length entry.1.1) < 2 ^ 32 → HasText (Elements Ops) (SpellsElement SpellsExpression) entry (32 + (ops_weight entry.1.0 + 5 * length entry.1.1))
element_text (table, (offset, funcs)) (p, h, q) small =
    text_wider (then_text SpellsU32 (Then SpellsExpression (SpellsList SpellsU32)) table (offset, funcs) 5 (ops_weight offset + 1 + (5 + 5 * length funcs)) (u32_text table p) (then_text SpellsExpression (SpellsList SpellsU32) offset funcs (ops_weight offset + 1) (5 + 5 * length funcs) (held_text offset h (omega arith)) (indices_text funcs q (omega arith)))) (32 + (ops_weight offset + 5 * length funcs)) (omega arith)

run_text : (run : LocalRun) → IsU32 run.count → HasText LocalRun SpellsLocalRun run 8
run_text run h = let inner = then_text SpellsU32 SpellsValType run.count run.value 5 1 (u32_text run.count h) (val_text run.value) in record { text = inner.text; spelled = inner.spelled; short = omega (arith, inner.short) }

code_text : (entry : Function Ops) → All (λ run. IsU32 run.count) entry.0 × AreInstructions entry.1 → 32 + (8 * length entry.0 + ops_weight entry.1) < 2 ^ 32 → HasText (Function Ops) (SpellsCode SpellsExpression) entry (32 + (8 * length entry.0 + ops_weight entry.1))
code_text (locals, body) (p, h) small =
    let IsRun : LocalRun → Type 0 = λ run. IsU32 run.count in
    let inner = then_text (SpellsList SpellsLocalRun) SpellsExpression locals body (5 + 8 * length locals) (ops_weight body + 1) (list_same SpellsLocalRun IsRun 8 (omega arith) run_text locals p (omega arith)) (held_text body h (omega arith)) in
    text_wider (sized_text (Then (SpellsList SpellsLocalRun) SpellsExpression) (locals, body) (5 + 8 * length locals + (ops_weight body + 1)) inner (omega arith)) (32 + (8 * length locals + ops_weight body)) (omega arith)

segment_text : (entry : Data Ops) → IsU32 entry.0 × AreInstructions entry.1.0 → 32 + (ops_weight entry.1.0 + length entry.1.1) < 2 ^ 32 → HasText (Data Ops) (SpellsSegment SpellsExpression) entry (32 + (ops_weight entry.1.0 + length entry.1.1))
segment_text (memory, (offset, bytes)) (p, h) small =
    text_wider (then_text SpellsU32 (Then SpellsExpression SpellsBytes) memory (offset, bytes) 5 (ops_weight offset + 1 + (5 + length bytes)) (u32_text memory p) (then_text SpellsExpression SpellsBytes offset bytes (ops_weight offset + 1) (5 + length bytes) (held_text offset h (omega arith)) (bytes_text bytes (omega arith)))) (32 + (ops_weight offset + length bytes)) (omega arith)

start_text : (start : Option ℕ) → ((func : ℕ) → start ≡ Some func → IsU32 func) → HasText (Option ℕ) StartPart start 11
start_text None h = record { text = []; spelled = part_absent; short = omega arith }
start_text (Some func) h =
    let index = u32_text func (h func refl) in
    let inner : HasText (Option ℕ) SpellsStart (Some func) 5 = record { text = index.text; spelled = (func, index.spelled, refl); short = index.short } in
    part_text 8 SpellsStart None (Some func) 5 inner (omega arith)

-- A section that holds a list.
list_part : {V : Type 0} (number : ℕ) (Form : List ℕ → V → Type 0) (P : V → Type 0) (heavy : V → ℕ) → ((v : V) → 1 ≤ heavy v) → ((v : V) → P v → heavy v < 2 ^ 32 → HasText V Form v (heavy v)) → (vs : List V) → All P vs → 5 + sum_by heavy vs < 2 ^ 32 → HasText (List V) (SpellsPart number (SpellsList Form) []) vs (6 + (5 + sum_by heavy vs))
list_part number Form P heavy some f vs all small = part_text number (SpellsList Form) [] vs (5 + sum_by heavy vs) (list_text Form P heavy some f vs all (omega arith)) small

-- The whole module: the opening and eleven sections, each with its number, its size and its count.
pub encodable_text : (m : Syntax Ops) → IsEncodable m → HasText (Syntax Ops) Spells m (97 + weight m)
encodable_text m e =
    let small = e.small in
    text_wider (whole_text m
    (list_part 1 SpellsFuncType (λ type. Unit {0}) (λ type. 32 + length type.params) (λ v. omega arith) (λ v p h. func_type_text v h) m.types (λ k d lt. tt) (omega arith))
    (list_part 2 SpellsImport (λ entry. IsUtf8 entry.module × IsUtf8 entry.name × IsImported entry.desc) import_weight (λ v. omega arith) import_text m.imports e.imports (omega arith))
    (list_part 3 SpellsU32 IsU32 (λ func. 5) (λ v. omega arith) (λ v p h. u32_text v p) m.funcs e.funcs (omega arith))
    (list_part 4 SpellsTableType AreLimits (λ bounds. 32) (λ v. omega arith) (λ v p h. text_wider (table_text v p) 32 (omega arith)) m.tables e.tables (omega arith))
    (list_part 5 SpellsBounds AreLimits (λ bounds. 32) (λ v. omega arith) (λ v p h. text_wider (limits_text v p) 32 (omega arith)) m.memories e.memories (omega arith))
    (list_part 6 (SpellsGlobal SpellsExpression) (λ global. AreInstructions global.1) (λ global. 32 + ops_weight global.1) (λ v. omega arith) global_text m.globals e.globals (omega arith))
    (list_part 7 SpellsExport (λ entry. IsUtf8 entry.name × IsExported entry.desc) (λ entry. 32 + length entry.name) (λ v. omega arith) export_text m.exports e.exports (omega arith))
    (start_text m.start e.start)
    (list_part 9 (SpellsElement SpellsExpression) (λ element. IsU32 element.0 × AreInstructions element.1.0 × All IsU32 element.1.1) (λ element. 32 + (ops_weight element.1.0 + 5 * length element.1.1)) (λ v. omega arith) element_text m.elements e.elements (omega arith))
    (list_part 10 (SpellsCode SpellsExpression) (λ code. All (λ run. IsU32 run.count) code.0 × AreInstructions code.1) (λ code. 32 + (8 * length code.0 + ops_weight code.1)) (λ v. omega arith) code_text m.codes e.codes (omega arith))
    (list_part 11 (SpellsSegment SpellsExpression) (λ segment. IsU32 segment.0 × AreInstructions segment.1.0) (λ segment. 32 + (ops_weight segment.1.0 + length segment.1.1)) (λ v. omega arith) segment_text m.segments e.segments (omega arith))
    e.functions) (97 + weight m) (omega arith)

pub encodable_spelled : (m : Syntax Ops) → IsEncodable m → IsSpelled Spells m
encodable_spelled m e = let whole = encodable_text m e in (whole.text, whole.spelled)
