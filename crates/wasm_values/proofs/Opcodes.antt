-- The spellings of instructions, taken apart by their opcode.
use Rattle.std.proofs.Common.{◌≡◌, ℕ, ℤ, ◌≤◌, ◌<◌, ◌^◌, ◌⊎◌, inl, inr, List, [], ◌∷◌, ◌++◌, refl, ap, sym, ◌∙◌, arith, subst}
use Rattle.byte_fields.specs.Leb.{SpellsSigned}
use Rattle.wasm_values.specs.Spelling.{SpellsU32, Then, SpellsMark, SpellsList}
use Rattle.wasm_values.specs.Syntax.{nesting, Op, unreachable, nop, br, br_if, br_table, return, call, call_indirect, drop_value, select, local_get, local_set, local_tee, global_get, global_set, memory_size, memory_grow, i32_const, i64_const, float_const, numeric, float_plain}
use Rattle.wasm_values.specs.Instructions.{SpellsOp, spells_unreachable, spells_nop, spells_block, spells_loop, spells_if, spells_if_else, spells_br, spells_br_if, spells_br_table, spells_return, spells_call, spells_call_indirect, spells_drop, spells_select, spells_local_get, spells_local_set, spells_local_tee, spells_global_get, spells_global_set, spells_memory, spells_memory_size, spells_memory_grow, spells_i32_const, spells_i64_const, spells_f32_const, spells_f64_const, spells_numeric, spells_float_plain, IsMemory, is_load, is_store, is_float_memory, IsLoad, load_row, IsStore, store_row, IsFloatMemory, IsNumeric, unary_row, binary_row, IsFloatPlain}
use Rattle.wasm_values.proofs.Groups.{load_bounds, store_bounds, float_memory_bounds, numeric_bounds, float_plain_bounds}
use Rattle.wasm_values.specs.declared.instr.FloatBytes.TheVariants.{Four, Eight}
use Rattle.byte_fields.specs.Front.{Begins, BeginsOnly, BeginsNone}
use Rattle.byteorder.specs.Endian.{little_bytes}
use Rattle.wasm_values.proofs.Tags.{IsTag, tag_found, tag_only, tag_none}

-- What was read behind an opcode makes the instruction.
pub op_found : {W : Type 0} {Inner : List ℕ → W → Type 0} {make : W → Op} {tag : ℕ} → IsTag Op W SpellsOp Inner make tag → (code : ℕ) (behind rest : List ℕ) (inner : W) (view : Op) → code ≡ tag → view ≡ make inner → Begins Inner behind inner rest → Begins SpellsOp (code ∷ behind) view rest
op_found t code behind rest inner view same e b = rw e (tag_found t {whole = code ∷ behind} {behind = behind} {code = code} refl same rest inner b)

pub op_only : {W : Type 0} {Inner : List ℕ → W → Type 0} {make : W → Op} {tag : ℕ} → IsTag Op W SpellsOp Inner make tag → (code : ℕ) (behind rest : List ℕ) (inner : W) (view : Op) → code ≡ tag → view ≡ make inner → BeginsOnly Inner behind inner rest → BeginsOnly SpellsOp (code ∷ behind) view rest
op_only t code behind rest inner view same e only = rw e (tag_only t {whole = code ∷ behind} {behind = behind} {code = code} refl same rest inner only)

pub op_none : {W : Type 0} {Inner : List ℕ → W → Type 0} {make : W → Op} {tag : ℕ} → IsTag Op W SpellsOp Inner make tag → (code : ℕ) (behind : List ℕ) → code ≡ tag → BeginsNone Inner behind → BeginsNone SpellsOp (code ∷ behind)
op_none t code behind same none = tag_none t {whole = code ∷ behind} {behind = behind} {code = code} refl same none

-- An opcode that stands for one instruction, by its number: in none of the groups.
abbrev pub IsAlone : ℕ → Type 0
IsAlone tag = (tag < 0x25) ⊎ ((0x3f ≤ tag) × (tag ≤ 0x44))

pub memory_low : {code align offset : ℕ} {op : Op} → IsMemory code align offset op → 0x28 ≤ code
memory_low {code = code} (is_load r) = (load_bounds code r).0
memory_low {code = code} (is_store r) = (store_bounds code r).0
memory_low {code = code} (is_float_memory r) = (float_memory_bounds code r).0

pub memory_high : {code align offset : ℕ} {op : Op} → IsMemory code align offset op → code ≤ 0x3e
memory_high {code = code} (is_load r) = (load_bounds code r).1
memory_high {code = code} (is_store r) = (store_bounds code r).1
memory_high {code = code} (is_float_memory r) = (float_memory_bounds code r).1

pub numeric_high : (tag : ℕ) → IsNumeric tag → 0x45 ≤ tag
numeric_high tag r = (numeric_bounds tag r).0

pub plain_high : (tag : ℕ) → IsFloatPlain tag → 0x45 ≤ tag
plain_high tag r = (float_plain_bounds tag r).0

-- Nothing behind the opcode.
abbrev pub SpellsNothing : List ℕ → Unit {0} → Type 0
SpellsNothing bytes _ = bytes ≡ []

-- A number in so many bytes, the lowest first.
abbrev pub SpellsLittle : ℕ → List ℕ → ℕ → Type 0
SpellsLittle count bytes number = (number < 256 ^ count) × (bytes ≡ little_bytes count number)

pub op_never : (value : Op) → SpellsOp [] value → ⊥
op_never value s = elim s [ ]

-- What stands behind the opcode is of this form, and makes the instruction.
abbrev pub Makes : {W : Type 0} → (List ℕ → W → Type 0) → (W → Op) → List ℕ → Op → Type 0
Makes {W} Inner make text op = (inner : W) × Inner text inner × (op ≡ make inner)

-- What stands behind an opcode of one instruction alone. Of those that hold others nothing is said here.
data Lone : ℕ → List ℕ → Op → Type 0 where
  lone_unreachable : {text : List ℕ} {op : Op} → Makes SpellsNothing (λ (_ : Unit {0}). unreachable) text op → Lone 0x00 text op
  lone_nop : {text : List ℕ} {op : Op} → Makes SpellsNothing (λ (_ : Unit {0}). nop) text op → Lone 0x01 text op
  lone_block : {text : List ℕ} {op : Op} → Lone 0x02 text op
  lone_loop : {text : List ℕ} {op : Op} → Lone 0x03 text op
  lone_if : {text : List ℕ} {op : Op} → Lone 0x04 text op
  lone_br : {text : List ℕ} {op : Op} → Makes SpellsU32 br text op → Lone 0x0c text op
  lone_br_if : {text : List ℕ} {op : Op} → Makes SpellsU32 br_if text op → Lone 0x0d text op
  lone_br_table : {text : List ℕ} {op : Op} → Makes (Then (SpellsList SpellsU32) SpellsU32) (λ (p : List ℕ × ℕ). br_table p.0 p.1) text op → Lone 0x0e text op
  lone_return : {text : List ℕ} {op : Op} → Makes SpellsNothing (λ (_ : Unit {0}). return) text op → Lone 0x0f text op
  lone_call : {text : List ℕ} {op : Op} → Makes SpellsU32 call text op → Lone 0x10 text op
  lone_call_indirect : {text : List ℕ} {op : Op} → Makes (Then SpellsU32 (SpellsMark 0x00)) (λ (p : ℕ × Unit {0}). call_indirect p.0) text op → Lone 0x11 text op
  lone_drop : {text : List ℕ} {op : Op} → Makes SpellsNothing (λ (_ : Unit {0}). drop_value) text op → Lone 0x1a text op
  lone_select : {text : List ℕ} {op : Op} → Makes SpellsNothing (λ (_ : Unit {0}). select) text op → Lone 0x1b text op
  lone_local_get : {text : List ℕ} {op : Op} → Makes SpellsU32 local_get text op → Lone 0x20 text op
  lone_local_set : {text : List ℕ} {op : Op} → Makes SpellsU32 local_set text op → Lone 0x21 text op
  lone_local_tee : {text : List ℕ} {op : Op} → Makes SpellsU32 local_tee text op → Lone 0x22 text op
  lone_global_get : {text : List ℕ} {op : Op} → Makes SpellsU32 global_get text op → Lone 0x23 text op
  lone_global_set : {text : List ℕ} {op : Op} → Makes SpellsU32 global_set text op → Lone 0x24 text op
  lone_memory_size : {text : List ℕ} {op : Op} → Makes (SpellsMark 0x00) (λ (_ : Unit {0}). memory_size) text op → Lone 0x3f text op
  lone_memory_grow : {text : List ℕ} {op : Op} → Makes (SpellsMark 0x00) (λ (_ : Unit {0}). memory_grow) text op → Lone 0x40 text op
  lone_i32_const : {text : List ℕ} {op : Op} → Makes (SpellsSigned 32) i32_const text op → Lone 0x41 text op
  lone_i64_const : {text : List ℕ} {op : Op} → Makes (SpellsSigned 64) i64_const text op → Lone 0x42 text op
  lone_f32_const : {text : List ℕ} {op : Op} → Makes (SpellsLittle 4) (λ (n : ℕ). float_const (Four n)) text op → Lone 0x43 text op
  lone_f64_const : {text : List ℕ} {op : Op} → Makes (SpellsLittle 8) (λ (n : ℕ). float_const (Eight n)) text op → Lone 0x44 text op

-- What a spelling is, by its opcode.
data Kind : ℕ → List ℕ → Op → Type 0 where
  kind_lone : {code : ℕ} {text : List ℕ} {op : Op} → IsAlone code → Lone code text op → Kind code text op
  kind_memory : {code align offset : ℕ} {text : List ℕ} {op : Op} → IsMemory code align offset op → Then SpellsU32 SpellsU32 text (align, offset) → Kind code text op
  kind_numeric : {code : ℕ} → IsNumeric code → Kind code [] (numeric code)
  kind_float_plain : {code : ℕ} → IsFloatPlain code → Kind code [] (float_plain code)

kind_of : (code : ℕ) (text : List ℕ) (op : Op) → SpellsOp (code ∷ text) op → Kind code text op
kind_of code text op spells_unreachable = kind_lone (inl (omega arith)) (lone_unreachable (tt, refl, refl))
kind_of code text op spells_nop = kind_lone (inl (omega arith)) (lone_nop (tt, refl, refl))
kind_of code text op (spells_block k s) = kind_lone (inl (omega arith)) lone_block
kind_of code text op (spells_loop k s) = kind_lone (inl (omega arith)) lone_loop
kind_of code text op (spells_if k s) = kind_lone (inl (omega arith)) lone_if
kind_of code text op (spells_if_else k s u) = kind_lone (inl (omega arith)) lone_if
kind_of code text op (spells_br s) = kind_lone (inl (omega arith)) (lone_br (_, s, refl))
kind_of code text op (spells_br_if s) = kind_lone (inl (omega arith)) (lone_br_if (_, s, refl))
kind_of code text op (spells_br_table {labels = ls} {last = n} s) = kind_lone (inl (omega arith)) (lone_br_table ((ls, n), s, refl))
kind_of code text op spells_return = kind_lone (inl (omega arith)) (lone_return (tt, refl, refl))
kind_of code text op (spells_call s) = kind_lone (inl (omega arith)) (lone_call (_, s, refl))
kind_of code text op (spells_call_indirect {kind = n} s) = kind_lone (inl (omega arith)) (lone_call_indirect ((n, tt), s, refl))
kind_of code text op spells_drop = kind_lone (inl (omega arith)) (lone_drop (tt, refl, refl))
kind_of code text op spells_select = kind_lone (inl (omega arith)) (lone_select (tt, refl, refl))
kind_of code text op (spells_local_get s) = kind_lone (inl (omega arith)) (lone_local_get (_, s, refl))
kind_of code text op (spells_local_set s) = kind_lone (inl (omega arith)) (lone_local_set (_, s, refl))
kind_of code text op (spells_local_tee s) = kind_lone (inl (omega arith)) (lone_local_tee (_, s, refl))
kind_of code text op (spells_global_get s) = kind_lone (inl (omega arith)) (lone_global_get (_, s, refl))
kind_of code text op (spells_global_set s) = kind_lone (inl (omega arith)) (lone_global_set (_, s, refl))
kind_of code text op (spells_memory r s) = kind_memory r s
kind_of code text op spells_memory_size = kind_lone (inr (omega arith, omega arith)) (lone_memory_size (tt, refl, refl))
kind_of code text op spells_memory_grow = kind_lone (inr (omega arith, omega arith)) (lone_memory_grow (tt, refl, refl))
kind_of code text op (spells_i32_const {number = n} s) = kind_lone (inr (omega arith, omega arith)) (lone_i32_const (n, s, refl))
kind_of code text op (spells_i64_const {number = n} s) = kind_lone (inr (omega arith, omega arith)) (lone_i64_const (n, s, refl))
kind_of code text op (spells_f32_const {number = n} s) = kind_lone (inr (omega arith, omega arith)) (lone_f32_const (n, (s, refl), refl))
kind_of code text op (spells_f64_const {number = n} s) = kind_lone (inr (omega arith, omega arith)) (lone_f64_const (n, (s, refl), refl))
kind_of code text op (spells_numeric r) = kind_numeric r
kind_of code text op (spells_float_plain r) = kind_float_plain r

alone_kind : {code : ℕ} {text : List ℕ} {op : Op} → IsAlone code → Kind code text op → Lone code text op
alone_kind h (kind_lone a s) = s
alone_kind h (kind_memory r s) = let low = memory_low r in let high = memory_high r in absurd (grind (arith, low, high))
alone_kind {code = code} h (kind_numeric r) = let high = numeric_high code r in absurd (grind (arith, high))
alone_kind {code = code} h (kind_float_plain r) = let high = plain_high code r in absurd (grind (arith, high))

lone : (code : ℕ) → IsAlone code → (text : List ℕ) (op : Op) → SpellsOp (code ∷ text) op → Lone code text op
lone code alone text op s = alone_kind alone (kind_of code text op s)

-- The opcodes that stand alone, each with what is behind it.
pub op_unreachable : IsTag Op (Unit {0}) SpellsOp SpellsNothing (λ (_ : Unit {0}). unreachable) 0x00
op_unreachable = record { never = op_never; spell = λ text inner e. rw e spells_unreachable; behind = λ text op s. elim (lone 0x00 (inl (omega arith)) text op s) [ lone_unreachable m ↦ m ] }

pub op_nop : IsTag Op (Unit {0}) SpellsOp SpellsNothing (λ (_ : Unit {0}). nop) 0x01
op_nop = record { never = op_never; spell = λ text inner e. rw e spells_nop; behind = λ text op s. elim (lone 0x01 (inl (omega arith)) text op s) [ lone_nop m ↦ m ] }

pub op_br : IsTag Op ℕ SpellsOp SpellsU32 br 0x0c
op_br = record { never = op_never; spell = λ text inner s. spells_br s; behind = λ text op s. elim (lone 0x0c (inl (omega arith)) text op s) [ lone_br m ↦ m ] }

pub op_br_if : IsTag Op ℕ SpellsOp SpellsU32 br_if 0x0d
op_br_if = record { never = op_never; spell = λ text inner s. spells_br_if s; behind = λ text op s. elim (lone 0x0d (inl (omega arith)) text op s) [ lone_br_if m ↦ m ] }

pub op_br_table : IsTag Op (List ℕ × ℕ) SpellsOp (Then (SpellsList SpellsU32) SpellsU32) (λ (p : List ℕ × ℕ). br_table p.0 p.1) 0x0e
op_br_table = record { never = op_never; spell = λ text inner s. spells_br_table s; behind = λ text op s. elim (lone 0x0e (inl (omega arith)) text op s) [ lone_br_table m ↦ m ] }

pub op_return : IsTag Op (Unit {0}) SpellsOp SpellsNothing (λ (_ : Unit {0}). return) 0x0f
op_return = record { never = op_never; spell = λ text inner e. rw e spells_return; behind = λ text op s. elim (lone 0x0f (inl (omega arith)) text op s) [ lone_return m ↦ m ] }

pub op_call : IsTag Op ℕ SpellsOp SpellsU32 call 0x10
op_call = record { never = op_never; spell = λ text inner s. spells_call s; behind = λ text op s. elim (lone 0x10 (inl (omega arith)) text op s) [ lone_call m ↦ m ] }

pub op_call_indirect : IsTag Op (ℕ × Unit {0}) SpellsOp (Then SpellsU32 (SpellsMark 0x00)) (λ (p : ℕ × Unit {0}). call_indirect p.0) 0x11
op_call_indirect = record { never = op_never; spell = λ text inner s. spells_call_indirect s; behind = λ text op s. elim (lone 0x11 (inl (omega arith)) text op s) [ lone_call_indirect m ↦ m ] }

pub op_drop : IsTag Op (Unit {0}) SpellsOp SpellsNothing (λ (_ : Unit {0}). drop_value) 0x1a
op_drop = record { never = op_never; spell = λ text inner e. rw e spells_drop; behind = λ text op s. elim (lone 0x1a (inl (omega arith)) text op s) [ lone_drop m ↦ m ] }

pub op_select : IsTag Op (Unit {0}) SpellsOp SpellsNothing (λ (_ : Unit {0}). select) 0x1b
op_select = record { never = op_never; spell = λ text inner e. rw e spells_select; behind = λ text op s. elim (lone 0x1b (inl (omega arith)) text op s) [ lone_select m ↦ m ] }

pub op_local_get : IsTag Op ℕ SpellsOp SpellsU32 local_get 0x20
op_local_get = record { never = op_never; spell = λ text inner s. spells_local_get s; behind = λ text op s. elim (lone 0x20 (inl (omega arith)) text op s) [ lone_local_get m ↦ m ] }

pub op_local_set : IsTag Op ℕ SpellsOp SpellsU32 local_set 0x21
op_local_set = record { never = op_never; spell = λ text inner s. spells_local_set s; behind = λ text op s. elim (lone 0x21 (inl (omega arith)) text op s) [ lone_local_set m ↦ m ] }

pub op_local_tee : IsTag Op ℕ SpellsOp SpellsU32 local_tee 0x22
op_local_tee = record { never = op_never; spell = λ text inner s. spells_local_tee s; behind = λ text op s. elim (lone 0x22 (inl (omega arith)) text op s) [ lone_local_tee m ↦ m ] }

pub op_global_get : IsTag Op ℕ SpellsOp SpellsU32 global_get 0x23
op_global_get = record { never = op_never; spell = λ text inner s. spells_global_get s; behind = λ text op s. elim (lone 0x23 (inl (omega arith)) text op s) [ lone_global_get m ↦ m ] }

pub op_global_set : IsTag Op ℕ SpellsOp SpellsU32 global_set 0x24
op_global_set = record { never = op_never; spell = λ text inner s. spells_global_set s; behind = λ text op s. elim (lone 0x24 (inl (omega arith)) text op s) [ lone_global_set m ↦ m ] }

pub op_memory_size : IsTag Op (Unit {0}) SpellsOp (SpellsMark 0x00) (λ (_ : Unit {0}). memory_size) 0x3f
op_memory_size = record { never = op_never; spell = λ text inner e. rw e spells_memory_size; behind = λ text op s. elim (lone 0x3f (inr (omega arith, omega arith)) text op s) [ lone_memory_size m ↦ m ] }

pub op_memory_grow : IsTag Op (Unit {0}) SpellsOp (SpellsMark 0x00) (λ (_ : Unit {0}). memory_grow) 0x40
op_memory_grow = record { never = op_never; spell = λ text inner e. rw e spells_memory_grow; behind = λ text op s. elim (lone 0x40 (inr (omega arith, omega arith)) text op s) [ lone_memory_grow m ↦ m ] }

pub op_i32_const : IsTag Op ℤ SpellsOp (SpellsSigned 32) i32_const 0x41
op_i32_const = record { never = op_never; spell = λ text inner s. spells_i32_const s; behind = λ text op s. elim (lone 0x41 (inr (omega arith, omega arith)) text op s) [ lone_i32_const m ↦ m ] }

pub op_i64_const : IsTag Op ℤ SpellsOp (SpellsSigned 64) i64_const 0x42
op_i64_const = record { never = op_never; spell = λ text inner s. spells_i64_const s; behind = λ text op s. elim (lone 0x42 (inr (omega arith, omega arith)) text op s) [ lone_i64_const m ↦ m ] }

pub op_f32_const : IsTag Op ℕ SpellsOp (SpellsLittle 4) (λ (n : ℕ). float_const (Four n)) 0x43
op_f32_const = record { never = op_never; spell = λ text inner s. rw s.1 (spells_f32_const s.0); behind = λ text op s. elim (lone 0x43 (inr (omega arith, omega arith)) text op s) [ lone_f32_const m ↦ m ] }

pub op_f64_const : IsTag Op ℕ SpellsOp (SpellsLittle 8) (λ (n : ℕ). float_const (Eight n)) 0x44
op_f64_const = record { never = op_never; spell = λ text inner s. rw s.1 (spells_f64_const s.0); behind = λ text op s. elim (lone 0x44 (inr (omega arith, omega arith)) text op s) [ lone_f64_const m ↦ m ] }

-- No instruction has an opcode past C4.
high_kind : {code : ℕ} {text : List ℕ} {op : Op} → 0xc5 ≤ code → Kind code text op → ⊥
high_kind high (kind_lone a s) = grind arith
high_kind high (kind_memory r s) = let top = memory_high r in omega (arith, top)
high_kind {code = code} high (kind_numeric r) = let top = (numeric_bounds code r).1 in omega (arith, top)
high_kind {code = code} high (kind_float_plain r) = let top = (float_plain_bounds code r).1 in omega (arith, top)

pub high_unknown : (code : ℕ) → 0xc5 ≤ code → (text : List ℕ) (op : Op) → SpellsOp (code ∷ text) op → ⊥
high_unknown code high text op s = high_kind high (kind_of code text op s)

-- What stands behind the opcode of a load or a store.
memory_kind : {code : ℕ} {text : List ℕ} {op : Op} → 0x28 ≤ code → code ≤ 0x3e → Kind code text op → (p : ℕ × ℕ) × Then SpellsU32 SpellsU32 text p × IsMemory code p.0 p.1 op
memory_kind low high (kind_lone a s) = absurd (grind arith)
memory_kind low high (kind_memory {align = a} {offset = o} r s) = ((a, o), s, r)
memory_kind {code = code} low high (kind_numeric r) = let top = numeric_high code r in absurd (omega (arith, top))
memory_kind {code = code} low high (kind_float_plain r) = let top = plain_high code r in absurd (omega (arith, top))

load_store : (code : ℕ) → IsLoad code → IsStore code → ⊥
load_store code (load_row e) (store_row f) = cc

load_float : (code : ℕ) → IsLoad code → IsFloatMemory code → ⊥
load_float code (load_row e) f = cc

store_float : (code : ℕ) → IsStore code → IsFloatMemory code → ⊥
store_float code (store_row e) f = cc

memory_once : {align offset : ℕ} {x y : Op} (code : ℕ) → IsMemory code align offset x → IsMemory code align offset y → x ≡ y
memory_once code (is_load r) (is_load s) = refl
memory_once code (is_load r) (is_store s) = absurd (load_store code r s)
memory_once code (is_load r) (is_float_memory s) = absurd (load_float code r s)
memory_once code (is_store r) (is_load s) = absurd (load_store code s r)
memory_once code (is_store r) (is_store s) = refl
memory_once code (is_store r) (is_float_memory s) = absurd (store_float code r s)
memory_once code (is_float_memory r) (is_load s) = absurd (load_float code s r)
memory_once code (is_float_memory r) (is_store s) = absurd (store_float code s r)
memory_once code (is_float_memory r) (is_float_memory s) = refl

pub memory_flat : {code align offset : ℕ} {op : Op} → IsMemory code align offset op → nesting op ≡ 0
memory_flat (is_load r) = refl
memory_flat (is_store r) = refl
memory_flat (is_float_memory r) = refl

memory_at : (code : ℕ) → 0x28 ≤ code → code ≤ 0x3e → (behind rest text : List ℕ) (op : Op) → SpellsOp text op → code ∷ behind ≡ text ++ rest → (p : ℕ × ℕ) × Begins (Then SpellsU32 SpellsU32) behind p rest × IsMemory code p.0 p.1 op
memory_at code low high behind rest [] op s e = absurd (op_never op s)
memory_at code low high behind rest (first ∷ text) op s e =
    let same : first ≡ code = cc in
    let P : ℕ → Type 0 = λ z. SpellsOp (z ∷ text) op in
    let parts = memory_kind low high (kind_of code text op (subst P same s)) in
    let tails : behind ≡ text ++ rest = cc in
    (parts.0, (text, parts.1, tails), parts.2)

pub memory_none : (code : ℕ) (behind : List ℕ) → 0x28 ≤ code → code ≤ 0x3e → BeginsNone (Then SpellsU32 SpellsU32) behind → BeginsNone SpellsOp (code ∷ behind)
memory_none code behind low high none = λ op rest (text, s, e). let at = memory_at code low high behind rest text op s e in none at.0 rest at.1

pub memory_found : (code : ℕ) (behind rest : List ℕ) (align offset : ℕ) (op : Op) → IsMemory code align offset op → Begins (Then SpellsU32 SpellsU32) behind (align, offset) rest → Begins SpellsOp (code ∷ behind) op rest
memory_found code behind rest align offset op r (text, s, e) = (code ∷ text, spells_memory r s, ap (λ z. code ∷ z) e)

pub memory_only : (code : ℕ) (behind rest : List ℕ) (align offset : ℕ) (op : Op) → 0x28 ≤ code → code ≤ 0x3e → IsMemory code align offset op → BeginsOnly (Then SpellsU32 SpellsU32) behind (align, offset) rest → BeginsOnly SpellsOp (code ∷ behind) op rest
memory_only code behind rest align offset op low high r only = λ other more (text, s, e).
    let at = memory_at code low high behind more text other s e in
    let one = only at.0 more at.1 in
    let P : ℕ × ℕ → Type 0 = λ z. IsMemory code z.0 z.1 other in
    (memory_once code (subst P one.0 at.2) r, one.1)

-- No instruction has an opcode from 25 to 27.
middle_kind : {code : ℕ} {text : List ℕ} {op : Op} → 0x25 ≤ code → code ≤ 0x27 → Kind code text op → ⊥
middle_kind low high (kind_lone a s) = grind arith
middle_kind low high (kind_memory r s) = let top = memory_low r in omega (arith, top)
middle_kind {code = code} low high (kind_numeric r) = let top = numeric_high code r in omega (arith, top)
middle_kind {code = code} low high (kind_float_plain r) = let top = plain_high code r in omega (arith, top)

-- An opcode from 45 on stands alone, and is an operation.
data IsOperation : ℕ → List ℕ → Op → Type 0 where
  is_numeric : {code : ℕ} → IsNumeric code → IsOperation code [] (numeric code)
  is_float_plain : {code : ℕ} → IsFloatPlain code → IsOperation code [] (float_plain code)

operation_kind : {code : ℕ} {text : List ℕ} {op : Op} → 0x45 ≤ code → Kind code text op → IsOperation code text op
operation_kind low (kind_lone a s) = absurd (grind arith)
operation_kind low (kind_memory r s) = let top = memory_high r in absurd (omega (arith, top))
operation_kind low (kind_numeric r) = is_numeric r
operation_kind low (kind_float_plain r) = is_float_plain r

numeric_plain : (code : ℕ) → IsNumeric code → IsFloatPlain code → ⊥
numeric_plain code (unary_row e) f = cc
numeric_plain code (binary_row e) f = cc

operation_once : {code : ℕ} {a b : List ℕ} {x y : Op} → IsOperation code a x → IsOperation code b y → (x ≡ y) × (a ≡ b)
operation_once (is_numeric r) (is_numeric t) = (refl, refl)
operation_once {code = code} (is_numeric r) (is_float_plain t) = absurd (numeric_plain code r t)
operation_once {code = code} (is_float_plain r) (is_numeric t) = absurd (numeric_plain code t r)
operation_once (is_float_plain r) (is_float_plain t) = (refl, refl)

operation_only : (code : ℕ) (bytes more text : List ℕ) (op other : Op) → 0x45 ≤ code → SpellsOp (code ∷ []) op → SpellsOp text other → code ∷ bytes ≡ text ++ more → (other ≡ op) × (more ≡ bytes)
operation_only code bytes more [] op other low t s e = absurd (op_never other s)
operation_only code bytes more (first ∷ text) op other low t s e =
    let same : first ≡ code = cc in
    let P : ℕ → Type 0 = λ z. SpellsOp (z ∷ text) other in
    let one = operation_once (operation_kind low (kind_of code text other (subst P same s))) (operation_kind low (kind_of code [] op t)) in
    let tails : bytes ≡ text ++ more = cc in
    (one.0, sym (tails ∙ ap (λ z. z ++ more) one.1))

pub plain_only : (code : ℕ) (bytes : List ℕ) (op : Op) → 0x45 ≤ code → SpellsOp (code ∷ []) op → BeginsOnly SpellsOp (code ∷ bytes) op bytes
plain_only code bytes op low t = λ other more (text, s, e). operation_only code bytes more text op other low t s e

middle_text : (code : ℕ) (bytes rest text : List ℕ) (op : Op) → 0x25 ≤ code → code ≤ 0x27 → SpellsOp text op → code ∷ bytes ≡ text ++ rest → ⊥
middle_text code bytes rest [] op low high s e = op_never op s
middle_text code bytes rest (first ∷ text) op low high s e =
    let same : first ≡ code = cc in
    let P : ℕ → Type 0 = λ z. SpellsOp (z ∷ text) op in
    middle_kind low high (kind_of code text op (subst P same s))

pub middle_none : (code : ℕ) (bytes : List ℕ) → 0x25 ≤ code → code ≤ 0x27 → BeginsNone SpellsOp (code ∷ bytes)
middle_none code bytes low high = λ op rest (text, s, e). middle_text code bytes rest text op low high s e
