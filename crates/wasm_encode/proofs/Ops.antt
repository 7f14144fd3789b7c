-- The spellings of instructions, by what they spell: an opcode, and what stands behind it.
use Rattle.std.proofs.Common.{◌≡◌, ℕ, ℤ, List, [], ◌∷◌, ◌++◌, refl, Option}
use Rattle.byteorder.specs.Endian.{little_bytes}
use Rattle.byte_fields.specs.Leb.{SpellsSigned}
use Rattle.wasm_values.specs.declared.types.ValType.{ValType}
use Rattle.wasm_values.specs.declared.instr.FloatBytes.TheVariants.{Four, Eight}
use Rattle.wasm_values.specs.Spelling.{SpellsU32, Then, SpellsMark, SpellsList}
use Rattle.wasm_values.specs.Values.{SpellsBlockType}
use Rattle.wasm_values.specs.Syntax.{Op, Ops, unreachable, nop, block, loop, if_else, br, br_if, br_table, return, call, call_indirect, drop_value, select, local_get, local_set, local_tee, global_get, global_set, load, store, memory_size, memory_grow, i32_const, i64_const, numeric, float_memory, float_const, float_plain}
use Rattle.wasm_values.specs.Instructions.{SpellsOp, SpellsExpression, spells_unreachable, spells_nop, spells_block, spells_loop, spells_if, spells_if_else, spells_br, spells_br_if, spells_br_table, spells_return, spells_call, spells_call_indirect, spells_drop, spells_select, spells_local_get, spells_local_set, spells_local_tee, spells_global_get, spells_global_set, spells_memory, spells_memory_size, spells_memory_grow, spells_i32_const, spells_i64_const, spells_f32_const, spells_f64_const, spells_numeric, spells_float_plain, is_load, is_store, is_float_memory, IsLoad, IsStore, IsFloatMemory, IsNumeric, IsFloatPlain}
use Rattle.wasm_values.proofs.Opcodes.{SpellsNothing, SpellsLittle}
use Rattle.wasm_encode.specs.inner.Parts.{SpellsBranches, branches_one, branches_two}
use Rattle.wasm_encode.proofs.Tagged.{IsTagged}

unreachable_only : (text : List ℕ) (inner : Unit {0}) → SpellsOp text unreachable → (behind : List ℕ) × SpellsNothing behind inner × (text ≡ 0x00 ∷ behind)
unreachable_only text inner spells_unreachable = ([], refl, refl)
unreachable_only text inner (spells_memory r s) = absurd (elim r [ ])

pub unreachable_tagged : IsTagged Op (Unit {0}) SpellsOp SpellsNothing (λ (_ : Unit {0}). unreachable) 0x00
unreachable_tagged = record { spell = λ text inner e. rw e spells_unreachable; only = unreachable_only }

nop_only : (text : List ℕ) (inner : Unit {0}) → SpellsOp text nop → (behind : List ℕ) × SpellsNothing behind inner × (text ≡ 0x01 ∷ behind)
nop_only text inner spells_nop = ([], refl, refl)
nop_only text inner (spells_memory r s) = absurd (elim r [ ])

pub nop_tagged : IsTagged Op (Unit {0}) SpellsOp SpellsNothing (λ (_ : Unit {0}). nop) 0x01
nop_tagged = record { spell = λ text inner e. rw e spells_nop; only = nop_only }

return_only : (text : List ℕ) (inner : Unit {0}) → SpellsOp text return → (behind : List ℕ) × SpellsNothing behind inner × (text ≡ 0x0f ∷ behind)
return_only text inner spells_return = ([], refl, refl)
return_only text inner (spells_memory r s) = absurd (elim r [ ])

pub return_tagged : IsTagged Op (Unit {0}) SpellsOp SpellsNothing (λ (_ : Unit {0}). return) 0x0f
return_tagged = record { spell = λ text inner e. rw e spells_return; only = return_only }

drop_only : (text : List ℕ) (inner : Unit {0}) → SpellsOp text drop_value → (behind : List ℕ) × SpellsNothing behind inner × (text ≡ 0x1a ∷ behind)
drop_only text inner spells_drop = ([], refl, refl)
drop_only text inner (spells_memory r s) = absurd (elim r [ ])

pub drop_tagged : IsTagged Op (Unit {0}) SpellsOp SpellsNothing (λ (_ : Unit {0}). drop_value) 0x1a
drop_tagged = record { spell = λ text inner e. rw e spells_drop; only = drop_only }

select_only : (text : List ℕ) (inner : Unit {0}) → SpellsOp text select → (behind : List ℕ) × SpellsNothing behind inner × (text ≡ 0x1b ∷ behind)
select_only text inner spells_select = ([], refl, refl)
select_only text inner (spells_memory r s) = absurd (elim r [ ])

pub select_tagged : IsTagged Op (Unit {0}) SpellsOp SpellsNothing (λ (_ : Unit {0}). select) 0x1b
select_tagged = record { spell = λ text inner e. rw e spells_select; only = select_only }

br_only : (text : List ℕ) (inner : ℕ) → SpellsOp text (br inner) → (behind : List ℕ) × SpellsU32 behind inner × (text ≡ 0x0c ∷ behind)
br_only text inner (spells_br {bytes = bytes} s) = (bytes, s, refl)
br_only text inner (spells_memory r s) = absurd (elim r [ ])

pub br_tagged : IsTagged Op ℕ SpellsOp SpellsU32 br 0x0c
br_tagged = record { spell = λ text inner s. spells_br s; only = br_only }

br_if_only : (text : List ℕ) (inner : ℕ) → SpellsOp text (br_if inner) → (behind : List ℕ) × SpellsU32 behind inner × (text ≡ 0x0d ∷ behind)
br_if_only text inner (spells_br_if {bytes = bytes} s) = (bytes, s, refl)
br_if_only text inner (spells_memory r s) = absurd (elim r [ ])

pub br_if_tagged : IsTagged Op ℕ SpellsOp SpellsU32 br_if 0x0d
br_if_tagged = record { spell = λ text inner s. spells_br_if s; only = br_if_only }

call_only : (text : List ℕ) (inner : ℕ) → SpellsOp text (call inner) → (behind : List ℕ) × SpellsU32 behind inner × (text ≡ 0x10 ∷ behind)
call_only text inner (spells_call {bytes = bytes} s) = (bytes, s, refl)
call_only text inner (spells_memory r s) = absurd (elim r [ ])

pub call_tagged : IsTagged Op ℕ SpellsOp SpellsU32 call 0x10
call_tagged = record { spell = λ text inner s. spells_call s; only = call_only }

local_get_only : (text : List ℕ) (inner : ℕ) → SpellsOp text (local_get inner) → (behind : List ℕ) × SpellsU32 behind inner × (text ≡ 0x20 ∷ behind)
local_get_only text inner (spells_local_get {bytes = bytes} s) = (bytes, s, refl)
local_get_only text inner (spells_memory r s) = absurd (elim r [ ])

pub local_get_tagged : IsTagged Op ℕ SpellsOp SpellsU32 local_get 0x20
local_get_tagged = record { spell = λ text inner s. spells_local_get s; only = local_get_only }

local_set_only : (text : List ℕ) (inner : ℕ) → SpellsOp text (local_set inner) → (behind : List ℕ) × SpellsU32 behind inner × (text ≡ 0x21 ∷ behind)
local_set_only text inner (spells_local_set {bytes = bytes} s) = (bytes, s, refl)
local_set_only text inner (spells_memory r s) = absurd (elim r [ ])

pub local_set_tagged : IsTagged Op ℕ SpellsOp SpellsU32 local_set 0x21
local_set_tagged = record { spell = λ text inner s. spells_local_set s; only = local_set_only }

local_tee_only : (text : List ℕ) (inner : ℕ) → SpellsOp text (local_tee inner) → (behind : List ℕ) × SpellsU32 behind inner × (text ≡ 0x22 ∷ behind)
local_tee_only text inner (spells_local_tee {bytes = bytes} s) = (bytes, s, refl)
local_tee_only text inner (spells_memory r s) = absurd (elim r [ ])

pub local_tee_tagged : IsTagged Op ℕ SpellsOp SpellsU32 local_tee 0x22
local_tee_tagged = record { spell = λ text inner s. spells_local_tee s; only = local_tee_only }

global_get_only : (text : List ℕ) (inner : ℕ) → SpellsOp text (global_get inner) → (behind : List ℕ) × SpellsU32 behind inner × (text ≡ 0x23 ∷ behind)
global_get_only text inner (spells_global_get {bytes = bytes} s) = (bytes, s, refl)
global_get_only text inner (spells_memory r s) = absurd (elim r [ ])

pub global_get_tagged : IsTagged Op ℕ SpellsOp SpellsU32 global_get 0x23
global_get_tagged = record { spell = λ text inner s. spells_global_get s; only = global_get_only }

global_set_only : (text : List ℕ) (inner : ℕ) → SpellsOp text (global_set inner) → (behind : List ℕ) × SpellsU32 behind inner × (text ≡ 0x24 ∷ behind)
global_set_only text inner (spells_global_set {bytes = bytes} s) = (bytes, s, refl)
global_set_only text inner (spells_memory r s) = absurd (elim r [ ])

pub global_set_tagged : IsTagged Op ℕ SpellsOp SpellsU32 global_set 0x24
global_set_tagged = record { spell = λ text inner s. spells_global_set s; only = global_set_only }

br_table_only : (text : List ℕ) (inner : List ℕ × ℕ) → SpellsOp text (br_table inner.0 inner.1) → (behind : List ℕ) × Then (SpellsList SpellsU32) SpellsU32 behind inner × (text ≡ 0x0e ∷ behind)
br_table_only text (labels, last) (spells_br_table {bytes = bytes} s) = (bytes, s, refl)
br_table_only text (labels, last) (spells_memory r s) = absurd (elim r [ ])

pub br_table_tagged : IsTagged Op (List ℕ × ℕ) SpellsOp (Then (SpellsList SpellsU32) SpellsU32) (λ both. br_table both.0 both.1) 0x0e
br_table_tagged = record { spell = λ text inner s. spells_br_table s; only = br_table_only }

call_indirect_only : (text : List ℕ) (inner : ℕ × Unit {0}) → SpellsOp text (call_indirect inner.0) → (behind : List ℕ) × Then SpellsU32 (SpellsMark 0x00) behind inner × (text ≡ 0x11 ∷ behind)
call_indirect_only text (kind, one) (spells_call_indirect {bytes = bytes} s) = (bytes, s, refl)
call_indirect_only text (kind, one) (spells_memory r s) = absurd (elim r [ ])

pub call_indirect_tagged : IsTagged Op (ℕ × Unit {0}) SpellsOp (Then SpellsU32 (SpellsMark 0x00)) (λ both. call_indirect both.0) 0x11
call_indirect_tagged = record { spell = λ text inner s. spells_call_indirect s; only = call_indirect_only }

memory_size_only : (text : List ℕ) (inner : Unit {0}) → SpellsOp text memory_size → (behind : List ℕ) × SpellsMark 0x00 behind inner × (text ≡ 0x3f ∷ behind)
memory_size_only text inner spells_memory_size = (0x00 ∷ [], refl, refl)
memory_size_only text inner (spells_memory r s) = absurd (elim r [ ])

pub memory_size_tagged : IsTagged Op (Unit {0}) SpellsOp (SpellsMark 0x00) (λ (_ : Unit {0}). memory_size) 0x3f
memory_size_tagged = record { spell = λ text inner e. rw e spells_memory_size; only = memory_size_only }

memory_grow_only : (text : List ℕ) (inner : Unit {0}) → SpellsOp text memory_grow → (behind : List ℕ) × SpellsMark 0x00 behind inner × (text ≡ 0x40 ∷ behind)
memory_grow_only text inner spells_memory_grow = (0x00 ∷ [], refl, refl)
memory_grow_only text inner (spells_memory r s) = absurd (elim r [ ])

pub memory_grow_tagged : IsTagged Op (Unit {0}) SpellsOp (SpellsMark 0x00) (λ (_ : Unit {0}). memory_grow) 0x40
memory_grow_tagged = record { spell = λ text inner e. rw e spells_memory_grow; only = memory_grow_only }

i32_const_only : (text : List ℕ) (inner : ℤ) → SpellsOp text (i32_const inner) → (behind : List ℕ) × SpellsSigned 32 behind inner × (text ≡ 0x41 ∷ behind)
i32_const_only text inner (spells_i32_const {bytes = bytes} s) = (bytes, s, refl)
i32_const_only text inner (spells_memory r s) = absurd (elim r [ ])

pub i32_const_tagged : IsTagged Op ℤ SpellsOp (SpellsSigned 32) i32_const 0x41
i32_const_tagged = record { spell = λ text inner s. spells_i32_const s; only = i32_const_only }

i64_const_only : (text : List ℕ) (inner : ℤ) → SpellsOp text (i64_const inner) → (behind : List ℕ) × SpellsSigned 64 behind inner × (text ≡ 0x42 ∷ behind)
i64_const_only text inner (spells_i64_const {bytes = bytes} s) = (bytes, s, refl)
i64_const_only text inner (spells_memory r s) = absurd (elim r [ ])

pub i64_const_tagged : IsTagged Op ℤ SpellsOp (SpellsSigned 64) i64_const 0x42
i64_const_tagged = record { spell = λ text inner s. spells_i64_const s; only = i64_const_only }

f32_const_only : (text : List ℕ) (inner : ℕ) → SpellsOp text (float_const (Four inner)) → (behind : List ℕ) × SpellsLittle 4 behind inner × (text ≡ 0x43 ∷ behind)
f32_const_only text inner (spells_f32_const h) = (little_bytes 4 inner, (h, refl), refl)
f32_const_only text inner (spells_memory r s) = absurd (elim r [ ])

pub f32_const_tagged : IsTagged Op ℕ SpellsOp (SpellsLittle 4) (λ number. float_const (Four number)) 0x43
f32_const_tagged = record { spell = λ text inner (h, e). rw e (spells_f32_const h); only = f32_const_only }

f64_const_only : (text : List ℕ) (inner : ℕ) → SpellsOp text (float_const (Eight inner)) → (behind : List ℕ) × SpellsLittle 8 behind inner × (text ≡ 0x44 ∷ behind)
f64_const_only text inner (spells_f64_const h) = (little_bytes 8 inner, (h, refl), refl)
f64_const_only text inner (spells_memory r s) = absurd (elim r [ ])

pub f64_const_tagged : IsTagged Op ℕ SpellsOp (SpellsLittle 8) (λ number. float_const (Eight number)) 0x44
f64_const_tagged = record { spell = λ text inner (h, e). rw e (spells_f64_const h); only = f64_const_only }

load_only : (code : ℕ) (text : List ℕ) (inner : ℕ × ℕ) → SpellsOp text (load code inner.0 inner.1) → (behind : List ℕ) × Then SpellsU32 SpellsU32 behind inner × (text ≡ code ∷ behind)
load_only code text (align, offset) (spells_memory {bytes = bytes} (is_load h) s) = (bytes, s, refl)

load_known : (text : List ℕ) (code align offset : ℕ) → SpellsOp text (load code align offset) → IsLoad code
load_known text code align offset (spells_memory (is_load h) s) = h

pub load_tagged : (text : List ℕ) (code align offset : ℕ) → SpellsOp text (load code align offset) → IsTagged Op (ℕ × ℕ) SpellsOp (Then SpellsU32 SpellsU32) (λ both. load code both.0 both.1) code
load_tagged text code align offset t = record { spell = λ bytes inner s. spells_memory (is_load (load_known text code align offset t)) s; only = load_only code }

store_only : (code : ℕ) (text : List ℕ) (inner : ℕ × ℕ) → SpellsOp text (store code inner.0 inner.1) → (behind : List ℕ) × Then SpellsU32 SpellsU32 behind inner × (text ≡ code ∷ behind)
store_only code text (align, offset) (spells_memory {bytes = bytes} (is_store h) s) = (bytes, s, refl)

store_known : (text : List ℕ) (code align offset : ℕ) → SpellsOp text (store code align offset) → IsStore code
store_known text code align offset (spells_memory (is_store h) s) = h

pub store_tagged : (text : List ℕ) (code align offset : ℕ) → SpellsOp text (store code align offset) → IsTagged Op (ℕ × ℕ) SpellsOp (Then SpellsU32 SpellsU32) (λ both. store code both.0 both.1) code
store_tagged text code align offset t = record { spell = λ bytes inner s. spells_memory (is_store (store_known text code align offset t)) s; only = store_only code }

float_memory_only : (code : ℕ) (text : List ℕ) (inner : ℕ × ℕ) → SpellsOp text (float_memory code inner.0 inner.1) → (behind : List ℕ) × Then SpellsU32 SpellsU32 behind inner × (text ≡ code ∷ behind)
float_memory_only code text (align, offset) (spells_memory {bytes = bytes} (is_float_memory h) s) = (bytes, s, refl)

float_memory_known : (text : List ℕ) (code align offset : ℕ) → SpellsOp text (float_memory code align offset) → IsFloatMemory code
float_memory_known text code align offset (spells_memory (is_float_memory h) s) = h

pub float_memory_tagged : (text : List ℕ) (code align offset : ℕ) → SpellsOp text (float_memory code align offset) → IsTagged Op (ℕ × ℕ) SpellsOp (Then SpellsU32 SpellsU32) (λ both. float_memory code both.0 both.1) code
float_memory_tagged text code align offset t = record { spell = λ bytes inner s. spells_memory (is_float_memory (float_memory_known text code align offset t)) s; only = float_memory_only code }

numeric_only : (code : ℕ) (text : List ℕ) (inner : Unit {0}) → SpellsOp text (numeric code) → (behind : List ℕ) × SpellsNothing behind inner × (text ≡ code ∷ behind)
numeric_only code text inner (spells_numeric h) = ([], refl, refl)
numeric_only code text inner (spells_memory r s) = absurd (elim r [ ])

numeric_known : (text : List ℕ) (code : ℕ) → SpellsOp text (numeric code) → IsNumeric code
numeric_known text code (spells_numeric h) = h
numeric_known text code (spells_memory r s) = absurd (elim r [ ])

pub numeric_tagged : (text : List ℕ) (code : ℕ) → SpellsOp text (numeric code) → IsTagged Op (Unit {0}) SpellsOp SpellsNothing (λ (_ : Unit {0}). numeric code) code
numeric_tagged text code t = record { spell = λ bytes inner e. rw e (spells_numeric (numeric_known text code t)); only = numeric_only code }

float_plain_only : (code : ℕ) (text : List ℕ) (inner : Unit {0}) → SpellsOp text (float_plain code) → (behind : List ℕ) × SpellsNothing behind inner × (text ≡ code ∷ behind)
float_plain_only code text inner (spells_float_plain h) = ([], refl, refl)
float_plain_only code text inner (spells_memory r s) = absurd (elim r [ ])

float_plain_known : (text : List ℕ) (code : ℕ) → SpellsOp text (float_plain code) → IsFloatPlain code
float_plain_known text code (spells_float_plain h) = h
float_plain_known text code (spells_memory r s) = absurd (elim r [ ])

pub float_plain_tagged : (text : List ℕ) (code : ℕ) → SpellsOp text (float_plain code) → IsTagged Op (Unit {0}) SpellsOp SpellsNothing (λ (_ : Unit {0}). float_plain code) code
float_plain_tagged text code t = record { spell = λ bytes inner e. rw e (spells_float_plain (float_plain_known text code t)); only = float_plain_only code }

block_only : (text : List ℕ) (inner : Option ValType × Ops) → SpellsOp text (block inner.0 inner.1) → (behind : List ℕ) × Then SpellsBlockType SpellsExpression behind inner × (text ≡ 0x02 ∷ behind)
block_only text (kind, ops) (spells_block {type = type} {bytes = bytes} k s) = (type ++ (bytes ++ 0x0b ∷ []), (type, bytes ++ 0x0b ∷ [], k, (bytes, s, refl), refl), refl)
block_only text (kind, ops) (spells_memory r s) = absurd (elim r [ ])

block_spell : (text : List ℕ) (inner : Option ValType × Ops) → Then SpellsBlockType SpellsExpression text inner → SpellsOp (0x02 ∷ text) (block inner.0 inner.1)
block_spell text (kind, ops) (front, back, k, (bytes, s, e), f) = rw (f, e) (spells_block k s)

pub block_tagged : IsTagged Op (Option ValType × Ops) SpellsOp (Then SpellsBlockType SpellsExpression) (λ both. block both.0 both.1) 0x02
block_tagged = record { spell = block_spell; only = block_only }

loop_only : (text : List ℕ) (inner : Option ValType × Ops) → SpellsOp text (loop inner.0 inner.1) → (behind : List ℕ) × Then SpellsBlockType SpellsExpression behind inner × (text ≡ 0x03 ∷ behind)
loop_only text (kind, ops) (spells_loop {type = type} {bytes = bytes} k s) = (type ++ (bytes ++ 0x0b ∷ []), (type, bytes ++ 0x0b ∷ [], k, (bytes, s, refl), refl), refl)
loop_only text (kind, ops) (spells_memory r s) = absurd (elim r [ ])

loop_spell : (text : List ℕ) (inner : Option ValType × Ops) → Then SpellsBlockType SpellsExpression text inner → SpellsOp (0x03 ∷ text) (loop inner.0 inner.1)
loop_spell text (kind, ops) (front, back, k, (bytes, s, e), f) = rw (f, e) (spells_loop k s)

pub loop_tagged : IsTagged Op (Option ValType × Ops) SpellsOp (Then SpellsBlockType SpellsExpression) (λ both. loop both.0 both.1) 0x03
loop_tagged = record { spell = loop_spell; only = loop_only }

if_only : (text : List ℕ) (inner : Option ValType × (Ops × Ops)) → SpellsOp text (if_else inner.0 inner.1.0 inner.1.1) → (behind : List ℕ) × Then SpellsBlockType SpellsBranches behind inner × (text ≡ 0x04 ∷ behind)
if_only text (kind, (first, second)) (spells_if {type = type} {bytes = bytes} k s) = (type ++ (bytes ++ 0x0b ∷ []), (type, bytes ++ 0x0b ∷ [], k, branches_one s, refl), refl)
if_only text (kind, (first, second)) (spells_if_else {type = type} {bytes = bytes} {more = more} k s t) = (type ++ (bytes ++ 0x05 ∷ (more ++ 0x0b ∷ [])), (type, bytes ++ 0x05 ∷ (more ++ 0x0b ∷ []), k, branches_two s t, refl), refl)
if_only text (kind, (first, second)) (spells_memory r s) = absurd (elim r [ ])

if_spell : (text : List ℕ) (inner : Option ValType × (Ops × Ops)) → Then SpellsBlockType SpellsBranches text inner → SpellsOp (0x04 ∷ text) (if_else inner.0 inner.1.0 inner.1.1)
if_spell text (kind, (one, two)) (front, back, k, branches_one s, f) = rw f (spells_if k s)
if_spell text (kind, (one, two)) (front, back, k, branches_two s t, f) = rw f (spells_if_else k s t)

pub if_tagged : IsTagged Op (Option ValType × (Ops × Ops)) SpellsOp (Then SpellsBlockType SpellsBranches) (λ p. if_else p.0 p.1.0 p.1.1) 0x04
if_tagged = record { spell = if_spell; only = if_only }
