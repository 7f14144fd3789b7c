-- Blocks, and the parts of an `if`.
use Rattle.std.proofs.Common.{◌≡◌, ℕ, ◌-◌, ◌<◌, ◌⊎◌, inl, inr, List, [], ◌∷◌, ◌++◌, refl, ap, sym, ◌∙◌, append_assoc, arith, Option, map}
use Rattle.byte_fields.specs.Front.{Begins, BeginsOnly, BeginsNone}
use Rattle.wasm_values.specs.Spelling.{Then}
use Rattle.wasm_values.specs.Values.{SpellsBlockType}
use Rattle.wasm_values.specs.Syntax.{Op, Ops, block, loop, if_else, no_ops}
use Rattle.wasm_values.specs.View.{instrs_view, ops_of, instr_view}
use Rattle.wasm_values.specs.Instructions.{spells_block, spells_loop, spells_if, spells_if_else, spells_memory, spells_numeric, spells_float_plain}
use Rattle.wasm_values.specs.inner.Nested.{SpellsShallow, SpellsInner, SpellsBranches, branches_one, branches_two, SpellsBody}
use Rattle.wasm_values.specs.declared.types.ValType.{ValType}
use Rattle.wasm_values.specs.declared.instr.Instrs.{Instrs}
use Rattle.wasm_values.proofs.Fronts.{begins_along}
use Rattle.wasm_values.proofs.Tags.{IsTag, tag_found, tag_only, tag_none}
use Rattle.wasm_values.proofs.Opcodes.{op_never, memory_low, numeric_high, plain_high}
use Rattle.wasm_values.proofs.Views.{view_instrs}

pub inner_body : (depth : ℕ) (bytes rest : List ℕ) (ops : Ops) → 0 < depth → Begins (SpellsInner depth) bytes ops rest → Begins (SpellsBody (depth - 1)) bytes (ops, 0x0b) rest
inner_body depth bytes rest ops some (whole, ((text, s, f), n), e) = (whole, (text, s, inl refl, omega arith, f), e)

pub inner_found : (depth end : ℕ) (bytes rest : List ℕ) (ops : Ops) → 0 < depth → end ≡ 0x0b → Begins (SpellsBody (depth - 1)) bytes (ops, end) rest → Begins (SpellsInner depth) bytes ops rest
inner_found depth end bytes rest ops some same (whole, (text, s, is, n, f), e) = (whole, ((text, s, f ∙ ap (λ z. text ++ z ∷ []) same), omega arith), e)

-- An `if` has one part, or two with 05 between them.
pub branches_cases : (depth : ℕ) (bytes rest : List ℕ) (both : Ops × Ops) → 0 < depth → Begins (SpellsBranches depth) bytes both rest → ((both.1 ≡ no_ops) × Begins (SpellsBody (depth - 1)) bytes (both.0, 0x0b) rest) ⊎ ((middle : List ℕ) × Begins (SpellsBody (depth - 1)) bytes (both.0, 0x05) middle × Begins (SpellsInner depth) middle both.1 rest)
branches_cases depth bytes rest both some (whole, branches_one {bytes = text} s n, e) = inl (refl, (whole, (text, s, inl refl, omega arith, refl), e))
branches_cases depth bytes rest both some (whole, branches_two {bytes = text} {more = more} s t n, e) =
    let there : bytes ≡ (text ++ 0x05 ∷ []) ++ ((more ++ 0x0b ∷ []) ++ rest) = e ∙ append_assoc text (0x05 ∷ (more ++ 0x0b ∷ [])) rest ∙ sym (append_assoc text (0x05 ∷ []) ((more ++ 0x0b ∷ []) ++ rest)) in
    inr ((more ++ 0x0b ∷ []) ++ rest, (text ++ 0x05 ∷ [], (text, s, inr refl, omega arith, refl), there), (more ++ 0x0b ∷ [], ((more, t, refl), omega arith), refl))

pub branches_found_one : (depth end : ℕ) (bytes rest : List ℕ) (first second : Ops) → 0 < depth → end ≡ 0x0b → second ≡ no_ops → Begins (SpellsBody (depth - 1)) bytes (first, end) rest → Begins (SpellsBranches depth) bytes (first, second) rest
branches_found_one depth end bytes rest first second some same none (whole, (text, s, is, n, f), e) =
    rw none (text ++ 0x0b ∷ [], branches_one {depth = depth} s (omega arith), e ∙ ap (λ z. z ++ rest) (f ∙ ap (λ z. text ++ z ∷ []) same))

pub branches_found_two : (depth end : ℕ) (bytes middle rest : List ℕ) (first second : Ops) → 0 < depth → (end ≡ 0x0b → ⊥) → Begins (SpellsBody (depth - 1)) bytes (first, end) middle → Begins (SpellsInner depth) middle second rest → Begins (SpellsBranches depth) bytes (first, second) rest
branches_found_two depth end bytes middle rest first second some not (whole, (text, s, inl is, n, f), e) inner = absurd (not is)
branches_found_two depth end bytes middle rest first second some not (whole, (text, s, inr is, n, f), e) (inside, ((more, t, g), m), h) =
    let front : bytes ≡ text ++ (0x05 ∷ middle) = e ∙ ap (λ z. z ++ middle) (f ∙ ap (λ z. text ++ z ∷ []) is) ∙ append_assoc text (0x05 ∷ []) middle in
    let back : middle ≡ (more ++ 0x0b ∷ []) ++ rest = h ∙ ap (λ z. z ++ rest) g in
    (text ++ 0x05 ∷ (more ++ 0x0b ∷ []), branches_two s t (omega arith), front ∙ ap (λ z. text ++ 0x05 ∷ z) back ∙ sym (append_assoc text (0x05 ∷ (more ++ 0x0b ∷ [])) rest))

pub branches_none_first : (depth : ℕ) (bytes : List ℕ) → 0 < depth → BeginsNone (SpellsBody (depth - 1)) bytes → BeginsNone (SpellsBranches depth) bytes
branches_none_first depth bytes some none = λ both rest b. elim (branches_cases depth bytes rest both some b) [ inl h ↦ none (both.0, 0x0b) rest h.1 | inr h ↦ none (both.0, 0x05) h.0 h.1 ]

pub branches_none_second : (depth end : ℕ) (bytes middle : List ℕ) (first : Ops) → 0 < depth → (end ≡ 0x0b → ⊥) → BeginsOnly (SpellsBody (depth - 1)) bytes (first, end) middle → BeginsNone (SpellsInner depth) middle → BeginsNone (SpellsBranches depth) bytes
branches_none_second depth end bytes middle first some not only none = λ both rest b. elim (branches_cases depth bytes rest both some b) [
  | inl h ↦ not (sym (ap (λ (z : Ops × ℕ). z.1) (only (both.0, 0x0b) rest h.1).0))
  | inr h ↦ none both.1 rest (begins_along (SpellsInner depth) h.0 middle rest both.1 (only (both.0, 0x05) h.0 h.1).1 h.2)
]

pair_is : (a b x y : Ops) → a ≡ x → b ≡ y → (p : Ops × Ops) → p ≡ (a, b) → p ≡ (x, y)
pair_is a b x y e f p g = g ∙ ap (λ (z : Ops). let q : Ops × Ops = (z, b) in q) e ∙ ap (λ (z : Ops). let q : Ops × Ops = (x, z) in q) f

pub branches_only_one : (depth end : ℕ) (bytes rest : List ℕ) (first second : Ops) → 0 < depth → end ≡ 0x0b → second ≡ no_ops → BeginsOnly (SpellsBody (depth - 1)) bytes (first, end) rest → BeginsOnly (SpellsBranches depth) bytes (first, second) rest
branches_only_one depth end bytes rest first second some same none only = λ both more b. elim (branches_cases depth bytes more both some b) [
  | inl h ↦
      let one = only (both.0, 0x0b) more h.1 in
      (pair_is both.0 both.1 first second (ap (λ (z : Ops × ℕ). z.0) one.0) (h.0 ∙ sym none) both refl, one.1)
  | inr h ↦
      let one = only (both.0, 0x05) h.0 h.1 in
      let wrong : 0x05 ≡ end = ap (λ (z : Ops × ℕ). z.1) one.0 in
      absurd (omega arith)
]

pub branches_only_two : (depth end : ℕ) (bytes middle rest : List ℕ) (first second : Ops) → 0 < depth → (end ≡ 0x0b → ⊥) → BeginsOnly (SpellsBody (depth - 1)) bytes (first, end) middle → BeginsOnly (SpellsInner depth) middle second rest → BeginsOnly (SpellsBranches depth) bytes (first, second) rest
branches_only_two depth end bytes middle rest first second some not only inner = λ both more b. elim (branches_cases depth bytes more both some b) [
  | inl h ↦ absurd (not (sym (ap (λ (z : Ops × ℕ). z.1) (only (both.0, 0x0b) more h.1).0)))
  | inr h ↦
      let one = only (both.0, 0x05) h.0 h.1 in
      let two = inner both.1 more (begins_along (SpellsInner depth) h.0 middle more both.1 one.1 h.2) in
      (pair_is both.0 both.1 first second (ap (λ (z : Ops × ℕ). z.0) one.0) two.0 both refl, two.1)
]

pub view_empty : (is : Instrs) → is.list ≡ [] → instrs_view is ≡ no_ops
view_empty is e = view_instrs is ∙ ap (λ z. ops_of z) (ap (λ z. map instr_view z) e)

block_spell : (depth : ℕ) (text : List ℕ) (inner : Option ValType × Ops) → Then SpellsBlockType (SpellsInner depth) text inner → SpellsShallow depth (0x02 ∷ text) (block inner.0 inner.1)
block_spell depth text inner (front, back, k, ((ops, s, e), n), f) = rw (f, e) (spells_block k s, n)

block_behind : (depth : ℕ) (text : List ℕ) (value : Op) → SpellsShallow depth (0x02 ∷ text) value → (inner : Option ValType × Ops) × Then SpellsBlockType (SpellsInner depth) text inner × (value ≡ block inner.0 inner.1)
block_behind depth text value (spells_block {type = front} {bytes = back} {kind = kind} {ops = ops} k s, n) = ((kind, ops), (front, back ++ 0x0b ∷ [], k, ((back, s, refl), n), refl), refl)
block_behind depth text value (spells_memory r s, n) = let low = memory_low r in absurd (omega (arith, low))
block_behind depth text value (spells_numeric r, n) = let low = numeric_high 0x02 r in absurd (omega (arith, low))
block_behind depth text value (spells_float_plain r, n) = let low = plain_high 0x02 r in absurd (omega (arith, low))

pub tag_block : (depth : ℕ) → IsTag Op (Option ValType × Ops) (SpellsShallow depth) (Then SpellsBlockType (SpellsInner depth)) (λ p. block p.0 p.1) 0x02
tag_block depth = record { never = λ value s. op_never value s.0; spell = block_spell depth; behind = block_behind depth }

loop_spell : (depth : ℕ) (text : List ℕ) (inner : Option ValType × Ops) → Then SpellsBlockType (SpellsInner depth) text inner → SpellsShallow depth (0x03 ∷ text) (loop inner.0 inner.1)
loop_spell depth text inner (front, back, k, ((ops, s, e), n), f) = rw (f, e) (spells_loop k s, n)

loop_behind : (depth : ℕ) (text : List ℕ) (value : Op) → SpellsShallow depth (0x03 ∷ text) value → (inner : Option ValType × Ops) × Then SpellsBlockType (SpellsInner depth) text inner × (value ≡ loop inner.0 inner.1)
loop_behind depth text value (spells_loop {type = front} {bytes = back} {kind = kind} {ops = ops} k s, n) = ((kind, ops), (front, back ++ 0x0b ∷ [], k, ((back, s, refl), n), refl), refl)
loop_behind depth text value (spells_memory r s, n) = let low = memory_low r in absurd (omega (arith, low))
loop_behind depth text value (spells_numeric r, n) = let low = numeric_high 0x03 r in absurd (omega (arith, low))
loop_behind depth text value (spells_float_plain r, n) = let low = plain_high 0x03 r in absurd (omega (arith, low))

pub tag_loop : (depth : ℕ) → IsTag Op (Option ValType × Ops) (SpellsShallow depth) (Then SpellsBlockType (SpellsInner depth)) (λ p. loop p.0 p.1) 0x03
tag_loop depth = record { never = λ value s. op_never value s.0; spell = loop_spell depth; behind = loop_behind depth }

if_spell : (depth : ℕ) (text : List ℕ) (inner : Option ValType × (Ops × Ops)) → Then SpellsBlockType (SpellsBranches depth) text inner → SpellsShallow depth (0x04 ∷ text) (if_else inner.0 inner.1.0 inner.1.1)
if_spell depth text (kind, (one, two)) (front, back, k, branches_one s n, f) = rw f (spells_if k s, omega arith)
if_spell depth text (kind, (one, two)) (front, back, k, branches_two s t n, f) = rw f (spells_if_else k s t, n)

if_behind : (depth : ℕ) (text : List ℕ) (value : Op) → SpellsShallow depth (0x04 ∷ text) value → (inner : Option ValType × (Ops × Ops)) × Then SpellsBlockType (SpellsBranches depth) text inner × (value ≡ if_else inner.0 inner.1.0 inner.1.1)
if_behind depth text value (spells_if {type = front} {bytes = back} {kind = kind} {first = ops} k s, n) = ((kind, (ops, no_ops)), (front, back ++ 0x0b ∷ [], k, branches_one s (omega arith), refl), refl)
if_behind depth text value (spells_if_else {type = front} {bytes = back} {more = more} {kind = kind} {first = ops} {second = others} k s t, n) = ((kind, (ops, others)), (front, back ++ 0x05 ∷ (more ++ 0x0b ∷ []), k, branches_two s t n, refl), refl)
if_behind depth text value (spells_memory r s, n) = let low = memory_low r in absurd (omega (arith, low))
if_behind depth text value (spells_numeric r, n) = let low = numeric_high 0x04 r in absurd (omega (arith, low))
if_behind depth text value (spells_float_plain r, n) = let low = plain_high 0x04 r in absurd (omega (arith, low))

pub tag_if : (depth : ℕ) → IsTag Op (Option ValType × (Ops × Ops)) (SpellsShallow depth) (Then SpellsBlockType (SpellsBranches depth)) (λ p. if_else p.0 p.1.0 p.1.1) 0x04
tag_if depth = record { never = λ value s. op_never value s.0; spell = if_spell depth; behind = if_behind depth }

-- What was read behind an opcode makes the instruction.
pub nest_found : {W : Type 0} {Inner : List ℕ → W → Type 0} {make : W → Op} {tag : ℕ} (depth : ℕ) → IsTag Op W (SpellsShallow depth) Inner make tag → (code : ℕ) (behind rest : List ℕ) (inner : W) (view : Op) → code ≡ tag → view ≡ make inner → Begins Inner behind inner rest → Begins (SpellsShallow depth) (code ∷ behind) view rest
nest_found depth t code behind rest inner view same e b = rw e (tag_found t {whole = code ∷ behind} {behind = behind} {code = code} refl same rest inner b)

pub nest_only : {W : Type 0} {Inner : List ℕ → W → Type 0} {make : W → Op} {tag : ℕ} (depth : ℕ) → IsTag Op W (SpellsShallow depth) Inner make tag → (code : ℕ) (behind rest : List ℕ) (inner : W) (view : Op) → code ≡ tag → view ≡ make inner → BeginsOnly Inner behind inner rest → BeginsOnly (SpellsShallow depth) (code ∷ behind) view rest
nest_only depth t code behind rest inner view same e only = rw e (tag_only t {whole = code ∷ behind} {behind = behind} {code = code} refl same rest inner only)

pub nest_none : {W : Type 0} {Inner : List ℕ → W → Type 0} {make : W → Op} {tag : ℕ} (depth : ℕ) → IsTag Op W (SpellsShallow depth) Inner make tag → (code : ℕ) (behind : List ℕ) → code ≡ tag → BeginsNone Inner behind → BeginsNone (SpellsShallow depth) (code ∷ behind)
nest_none depth t code behind same none = tag_none t {whole = code ∷ behind} {behind = behind} {code = code} refl same none
