-- Bytes begin with one expression at most.
use Rattle.std.proofs.Common.{◌≡◌, ℕ, ◌-◌, ◌≤◌, ◌<◌, max, inl, inr, List, [], ◌∷◌, ◌++◌, refl, ap, sym, ◌∙◌, append_assoc, arith, Option}
use Rattle.byte_fields.specs.Front.{Begins, BeginsOnly}
use Rattle.wasm_values.specs.Spelling.{SpellsU32, Then}
use Rattle.wasm_values.specs.Syntax.{Op, Ops, no_ops, next, nesting, ops_nesting}
use Rattle.wasm_values.specs.Values.{SpellsBlockType}
use Rattle.wasm_values.specs.Instructions.{SpellsOp, spells_unreachable, spells_nop, spells_block, spells_loop, spells_if, spells_if_else, spells_br, spells_br_if, spells_br_table, spells_return, spells_call, spells_call_indirect, spells_drop, spells_select, spells_local_get, spells_local_set, spells_local_tee, spells_global_get, spells_global_set, spells_memory, spells_memory_size, spells_memory_grow, spells_i32_const, spells_i64_const, spells_f32_const, spells_f64_const, spells_numeric, spells_float_plain, SpellsOps, spells_none, spells_next, SpellsExpression, IsMemory}
use Rattle.wasm_values.specs.inner.Nested.{SpellsShallow, SpellsInner, IsEnd, SpellsBody}
use Rattle.wasm_values.specs.declared.types.ValType.{ValType}
use Rattle.wasm_values.proofs.Fronts.{then_only}
use Rattle.wasm_values.proofs.Tags.{IsTag, tag_only}
use Rattle.wasm_values.proofs.Opcodes.{op_unreachable, op_nop, op_br, op_br_if, op_br_table, op_return, op_call, op_call_indirect, op_drop, op_select, op_local_get, op_local_set, op_local_tee, op_global_get, op_global_set, op_memory_size, op_memory_grow, op_i32_const, op_i64_const, op_f32_const, op_f64_const, memory_low, memory_high, numeric_high, plain_high, memory_only, plain_only}
use Rattle.wasm_values.proofs.Bodies.{later_ops_start, later_ops_end}
use Rattle.wasm_values.proofs.Nests.{tag_block, tag_loop, tag_if, inner_body, branches_only_one, branches_only_two}
use Rattle.wasm_values.proofs.Once.{IsFrontOne, u32_one, signed_32_one, signed_64_one, little_one, nothing_one, mark_one, then_one, list_one, tag_one, block_type_one}

-- An instruction that holds no others.
leaf_only : {W : Type 0} {Inner : List ℕ → W → Type 0} {make : W → Op} {tag : ℕ} → IsTag Op W SpellsOp Inner make tag → IsFrontOne W Inner → (depth : ℕ) (bytes text rest : List ℕ) (inner : W) → Inner text inner → bytes ≡ tag ∷ (text ++ rest) → BeginsOnly (SpellsShallow depth) bytes (make inner) rest
leaf_only t k depth bytes text rest inner s e = λ other more (front, (p, n), f). tag_one t k bytes text rest inner s e other more (front, p, f)

-- A load or a store, whose opcode says which.
memory_front : {code align offset : ℕ} {op : Op} → IsMemory code align offset op → (depth : ℕ) (bytes text rest : List ℕ) → Then SpellsU32 SpellsU32 text (align, offset) → bytes ≡ code ∷ (text ++ rest) → BeginsOnly (SpellsShallow depth) bytes op rest
memory_front {code = code} {align = align} {offset = offset} {op = op} r depth bytes text rest s e = λ other more (front, (p, n), f).
    let behind = (then_one u32_one u32_one).one (text ++ rest) rest (align, offset) (text, s, refl) in
    memory_only code (text ++ rest) rest align offset op (memory_low r) (memory_high r) r behind other more (front, p, sym e ∙ f)

-- An operation, which is its opcode alone.
plain_front : (code depth : ℕ) (op : Op) (bytes rest : List ℕ) → 0x45 ≤ code → SpellsOp (code ∷ []) op → bytes ≡ code ∷ rest → BeginsOnly (SpellsShallow depth) bytes op rest
plain_front code depth op bytes rest low s e = λ other more (front, (p, n), f). plain_only code rest op low s other more (front, p, sym e ∙ f)

-- An instruction with a block's type, and others behind it.
nest_front : {W : Type 0} {Inner : List ℕ → W → Type 0} {make : Option ValType × W → Op} {tag depth : ℕ} → IsTag Op (Option ValType × W) (SpellsShallow depth) (Then SpellsBlockType Inner) make tag → (bytes type text rest : List ℕ) (kind : Option ValType) (inner : W) → SpellsBlockType type kind → BeginsOnly Inner (text ++ rest) inner rest → bytes ≡ tag ∷ ((type ++ text) ++ rest) → BeginsOnly (SpellsShallow depth) bytes (make (kind, inner)) rest
nest_front {Inner = Inner} {tag = tag} t bytes type text rest kind inner k only e =
    let behind : List ℕ = (type ++ text) ++ rest in
    let front = block_type_one.one behind (text ++ rest) kind (type, k, append_assoc type text rest) in
    tag_only t {whole = bytes} {behind = behind} {code = tag} e refl rest (kind, inner) (then_only SpellsBlockType Inner behind (text ++ rest) rest kind inner front only)

-- The inside of a block, from a body that ends in 0B.
inner_front : (depth : ℕ) (bytes rest : List ℕ) (ops : Ops) → 0 < depth → BeginsOnly (SpellsBody (depth - 1)) bytes (ops, 0x0b) rest → BeginsOnly (SpellsInner depth) bytes ops rest
inner_front depth bytes rest ops some only = λ other more b.
    let same = only (other, 0x0b) more (inner_body depth bytes more other some b) in
    (ap (λ (z : Ops × ℕ). z.0) same.0, same.1)

-- Where the first instruction and those behind it are the only ones, so are all.
next_same : (depth code : ℕ) (op : Op) (ops : Ops) (bytes left rest more : List ℕ) → Begins (SpellsBody depth) bytes (next op ops, code) rest → BeginsOnly (SpellsShallow depth) bytes op left → BeginsOnly (SpellsBody depth) left (ops, code) rest → {front : List ℕ} {others : Ops} → SpellsOps front others → (end : ℕ) → IsEnd end → ops_nesting others ≤ depth → bytes ≡ front ++ end ∷ more → (◌≡◌ {A = Ops × ℕ} (others, end) (next op ops, code)) × (more ≡ rest)
next_same depth code op ops bytes left rest more found one two spells_none end is n e =
    let wrong = later_ops_end depth (next op ops, code) [] bytes rest more end (later_ops_start depth (next op ops, code) bytes rest found) e is in
    let same : next op ops ≡ no_ops = ap (λ (z : Ops × ℕ). z.0) wrong.0 in
    absurd (cc)
next_same depth code op ops bytes left rest more found one two (spells_next {text = a} {more = b} {op = o} {ops = os} p ps) end is n e =
    let first = one o (b ++ end ∷ more) (a, (p, omega arith), e ∙ append_assoc a b (end ∷ more)) in
    let later = two (os, end) more (b ++ end ∷ [], (b, ps, is, omega arith, refl), sym first.1 ∙ sym (append_assoc b (end ∷ []) more)) in
    ((λ i. (next (first.0 i) (later.0 i).0, (later.0 i).1)), later.1)

-- A body that begins with this instruction.
body_next : (depth code : ℕ) (op : Op) (ops : Ops) (text texts bytes rest : List ℕ) → SpellsOp text op → SpellsOps texts ops → nesting op ≤ depth → ops_nesting ops ≤ depth → IsEnd code → bytes ≡ (text ++ texts) ++ code ∷ rest → BeginsOnly (SpellsShallow depth) bytes op (texts ++ code ∷ rest) → BeginsOnly (SpellsBody depth) (texts ++ code ∷ rest) (ops, code) rest → BeginsOnly (SpellsBody depth) bytes (next op ops, code) rest
body_next depth code op ops text texts bytes rest p ps n m is e one two = λ body more (whole, (front, s, ends, most, f), g).
    let found : Begins (SpellsBody depth) bytes (next op ops, code) rest = ((text ++ texts) ++ code ∷ [], (text ++ texts, spells_next p ps, is, omega arith, refl), e ∙ sym (append_assoc (text ++ texts) (code ∷ []) rest)) in
    next_same depth code op ops bytes (texts ++ code ∷ rest) rest more found one two s body.1 ends most (g ∙ ap (λ z. z ++ more) f ∙ append_assoc front (body.1 ∷ []) more)

-- By the text that is there: an instruction, and a body with the byte behind it.
mutual
  shallow_one : {text : List ℕ} {op : Op} → SpellsOp text op → (depth : ℕ) → nesting op ≤ depth → (bytes rest : List ℕ) → bytes ≡ text ++ rest → BeginsOnly (SpellsShallow depth) bytes op rest
  shallow_one spells_unreachable depth n bytes rest e = leaf_only op_unreachable nothing_one depth bytes [] rest tt refl e
  shallow_one spells_nop depth n bytes rest e = leaf_only op_nop nothing_one depth bytes [] rest tt refl e
  shallow_one (spells_block {type = type} {bytes = text} {kind = kind} {ops = ops} k s) depth n bytes rest e =
      let middle : List ℕ = (text ++ 0x0b ∷ []) ++ rest in
      let body = body_one s (depth - 1) (omega arith) 0x0b (inl refl) middle rest (append_assoc text (0x0b ∷ []) rest) in
      nest_front (tag_block depth) bytes type (text ++ 0x0b ∷ []) rest kind ops k (inner_front depth middle rest ops (omega arith) body) e
  shallow_one (spells_loop {type = type} {bytes = text} {kind = kind} {ops = ops} k s) depth n bytes rest e =
      let middle : List ℕ = (text ++ 0x0b ∷ []) ++ rest in
      let body = body_one s (depth - 1) (omega arith) 0x0b (inl refl) middle rest (append_assoc text (0x0b ∷ []) rest) in
      nest_front (tag_loop depth) bytes type (text ++ 0x0b ∷ []) rest kind ops k (inner_front depth middle rest ops (omega arith) body) e
  shallow_one (spells_if {type = type} {bytes = text} {kind = kind} {first = first} k s) depth n bytes rest e =
      let middle : List ℕ = (text ++ 0x0b ∷ []) ++ rest in
      let body = body_one s (depth - 1) (omega arith) 0x0b (inl refl) middle rest (append_assoc text (0x0b ∷ []) rest) in
      nest_front (tag_if depth) bytes type (text ++ 0x0b ∷ []) rest kind (first, no_ops) k (branches_only_one depth 0x0b middle rest first no_ops (omega arith) refl refl body) e
  shallow_one (spells_if_else {type = type} {bytes = text} {more = more} {kind = kind} {first = first} {second = second} k s t) depth n bytes rest e =
      let back : List ℕ = more ++ 0x0b ∷ [] in
      let middle : List ℕ = (text ++ 0x05 ∷ back) ++ rest in
      let body = body_one s (depth - 1) (omega arith) 0x05 (inr refl) middle (back ++ rest) (append_assoc text (0x05 ∷ back) rest) in
      let other = body_one t (depth - 1) (omega arith) 0x0b (inl refl) (back ++ rest) rest (append_assoc more (0x0b ∷ []) rest) in
      let inner = inner_front depth (back ++ rest) rest second (omega arith) other in
      nest_front (tag_if depth) bytes type (text ++ 0x05 ∷ back) rest kind (first, second) k (branches_only_two depth 0x05 middle (back ++ rest) rest first second (omega arith) (omega arith) body inner) e
  shallow_one (spells_br {bytes = text} {label = l} s) depth n bytes rest e = leaf_only op_br u32_one depth bytes text rest l s e
  shallow_one (spells_br_if {bytes = text} {label = l} s) depth n bytes rest e = leaf_only op_br_if u32_one depth bytes text rest l s e
  shallow_one (spells_br_table {bytes = text} {labels = ls} {last = l} s) depth n bytes rest e = leaf_only op_br_table (then_one (list_one u32_one) u32_one) depth bytes text rest (ls, l) s e
  shallow_one spells_return depth n bytes rest e = leaf_only op_return nothing_one depth bytes [] rest tt refl e
  shallow_one (spells_call {bytes = text} {func = f} s) depth n bytes rest e = leaf_only op_call u32_one depth bytes text rest f s e
  shallow_one (spells_call_indirect {bytes = text} {kind = k} s) depth n bytes rest e = leaf_only op_call_indirect (then_one u32_one (mark_one 0x00)) depth bytes text rest (k, tt) s e
  shallow_one spells_drop depth n bytes rest e = leaf_only op_drop nothing_one depth bytes [] rest tt refl e
  shallow_one spells_select depth n bytes rest e = leaf_only op_select nothing_one depth bytes [] rest tt refl e
  shallow_one (spells_local_get {bytes = text} {local = l} s) depth n bytes rest e = leaf_only op_local_get u32_one depth bytes text rest l s e
  shallow_one (spells_local_set {bytes = text} {local = l} s) depth n bytes rest e = leaf_only op_local_set u32_one depth bytes text rest l s e
  shallow_one (spells_local_tee {bytes = text} {local = l} s) depth n bytes rest e = leaf_only op_local_tee u32_one depth bytes text rest l s e
  shallow_one (spells_global_get {bytes = text} {global = g} s) depth n bytes rest e = leaf_only op_global_get u32_one depth bytes text rest g s e
  shallow_one (spells_global_set {bytes = text} {global = g} s) depth n bytes rest e = leaf_only op_global_set u32_one depth bytes text rest g s e
  shallow_one (spells_memory {bytes = text} r s) depth n bytes rest e = memory_front r depth bytes text rest s e
  shallow_one spells_memory_size depth n bytes rest e = leaf_only op_memory_size (mark_one 0x00) depth bytes (0x00 ∷ []) rest tt refl e
  shallow_one spells_memory_grow depth n bytes rest e = leaf_only op_memory_grow (mark_one 0x00) depth bytes (0x00 ∷ []) rest tt refl e
  shallow_one (spells_i32_const {bytes = text} {number = x} s) depth n bytes rest e = leaf_only op_i32_const signed_32_one depth bytes text rest x s e
  shallow_one (spells_i64_const {bytes = text} {number = x} s) depth n bytes rest e = leaf_only op_i64_const signed_64_one depth bytes text rest x s e
  shallow_one (spells_f32_const {number = x} h) depth n bytes rest e = leaf_only op_f32_const (little_one 4) depth bytes _ rest x (h, refl) e
  shallow_one (spells_f64_const {number = x} h) depth n bytes rest e = leaf_only op_f64_const (little_one 8) depth bytes _ rest x (h, refl) e
  shallow_one (spells_numeric {op = code} r) depth n bytes rest e = plain_front code depth _ bytes rest (numeric_high code r) (spells_numeric r) e
  shallow_one (spells_float_plain {op = code} r) depth n bytes rest e = plain_front code depth _ bytes rest (plain_high code r) (spells_float_plain r) e

  body_one : {text : List ℕ} {ops : Ops} → SpellsOps text ops → (depth : ℕ) → ops_nesting ops ≤ depth → (code : ℕ) → IsEnd code → (bytes rest : List ℕ) → bytes ≡ text ++ code ∷ rest → BeginsOnly (SpellsBody depth) bytes (ops, code) rest
  body_one spells_none depth n code is bytes rest e = λ body more b. later_ops_end depth body [] bytes more rest code (later_ops_start depth body bytes more b) e is
  body_one (spells_next {text = text} {more = texts} {op = op} {ops = ops} p ps) depth n code is bytes rest e =
      let one = shallow_one p depth (omega arith) bytes (texts ++ code ∷ rest) (e ∙ append_assoc text texts (code ∷ rest)) in
      let two = body_one ps depth (omega arith) code is (texts ++ code ∷ rest) rest refl in
      body_next depth code op ops text texts bytes rest p ps (omega arith) (omega arith) is e one two

-- Two expressions at the front are the same, within the nesting of both.
expression_same : (bytes rest more text front : List ℕ) (ops others : Ops) → SpellsOps text ops → bytes ≡ text ++ 0x0b ∷ rest → SpellsOps front others → bytes ≡ front ++ 0x0b ∷ more → (others ≡ ops) × (more ≡ rest)
expression_same bytes rest more text front ops others s e t f =
    let depth : ℕ = max (ops_nesting ops) (ops_nesting others) in
    let found : Begins (SpellsBody depth) bytes (others, 0x0b) more = (front ++ 0x0b ∷ [], (front, t, inl refl, omega arith, refl), f ∙ sym (append_assoc front (0x0b ∷ []) more)) in
    let same = body_one s depth (omega arith) 0x0b (inl refl) bytes rest e (others, 0x0b) more found in
    (ap (λ (z : Ops × ℕ). z.0) same.0, same.1)

pub expression_one : IsFrontOne Ops SpellsExpression
expression_one = record {
  one = λ bytes rest ops (whole, (text, s, e), f). λ others more (all, (front, t, g), h).
      expression_same bytes rest more text front ops others s (f ∙ ap (λ z. z ++ rest) e ∙ append_assoc text (0x0b ∷ []) rest) t (h ∙ ap (λ z. z ++ more) g ∙ append_assoc front (0x0b ∷ []) more);
}
