-- Expressions of which a part was read: what stands at the front, and what it does to the open blocks.
use Rattle.std.proofs.Common.{◌≡◌, ℕ, ◌≤◌, inl, inr, List, [], ◌∷◌, ◌++◌, refl, ap, sym, ◌∙◌, append_assoc, arith, subst, Option}
use native.Mathlib.Decide.{dec_le}
use Rattle.byte_fields.specs.Front.{Begins, BeginsOnly, BeginsNone}
use Rattle.wasm_values.specs.Spelling.{Then}
use Rattle.wasm_values.specs.Values.{SpellsBlockType}
use Rattle.wasm_values.specs.Syntax.{Op, Ops, block, loop, nesting}
use Rattle.wasm_values.specs.Instructions.{SpellsOp, SpellsOps, spells_none, spells_next, spells_block, spells_loop, spells_if, spells_if_else}
use Rattle.wasm_values.specs.inner.Nested.{IsEnd, SpellsShallow, SpellsInner, SpellsBranches, branches_one, branches_two}
use Rattle.wasm_values.specs.inner.Skimmed.{SpellsSome}
use Rattle.wasm_values.specs.inner.Opens.{Closes, closes_all, closes_block, closes_first, closes_second, ClosesBefore, ClosesAlike}
use Rattle.wasm_values.specs.declared.types.ValType.{ValType}
use Rattle.wasm_values.specs.declared.skim.Open.{Open}
use Rattle.wasm_values.specs.declared.skim.Open.TheVariants.{Block, First}
use Rattle.wasm_values.proofs.Fronts.{then_parts}
use Rattle.wasm_values.proofs.Tags.{IsTag, tagged}
use Rattle.wasm_values.proofs.Bodies.{no_end}
use Rattle.wasm_values.proofs.Nests.{tag_block, tag_loop, tag_if}

apart : (a b c rest : List ℕ) (mark : ℕ) → ((a ++ b) ++ mark ∷ c) ++ rest ≡ a ++ ((b ++ mark ∷ c) ++ rest)
apart a b c rest mark = simp append_assoc

-- An instruction may stand before the end of the innermost block.
closes_op : (top : Open) (outer : List Open) (front text : List ℕ) (op : Op) → SpellsOp front op → Closes (top ∷ outer) text → Closes (top ∷ outer) (front ++ text)
closes_op top outer front text op s (closes_block {text = t} {rest = r} ops c) = rw (← append_assoc front t (0x0b ∷ r)) (closes_block (spells_next s ops) c)
closes_op top outer front text op s (closes_first {text = t} {rest = r} ops c) = rw (← append_assoc front t (0x0b ∷ r)) (closes_first (spells_next s ops) c)
closes_op top outer front text op s (closes_second {text = t} {rest = r} ops c) = rw (← append_assoc front t (0x05 ∷ r)) (closes_second (spells_next s ops) c)

op_before : (top : Open) (outer : List Open) (bytes middle rest : List ℕ) (op : Op) → Begins SpellsOp bytes op middle → ClosesBefore (top ∷ outer) middle rest → ClosesBefore (top ∷ outer) bytes rest
op_before top outer bytes middle rest op (front, s, e) (text, c, f) = (front ++ text, closes_op top outer front text op s c, e ∙ ap (λ z. front ++ z) f ∙ sym (append_assoc front text rest))

-- What stands at the front: the end of the innermost block, the end of the first part of an `if`, or an instruction.
data Front (top : Open) (outer : List Open) (code : ℕ) (behind rest : List ℕ) : Type 0 where
  at_end : code ≡ 0x0b → ClosesBefore outer behind rest → Front top outer code behind rest
  at_else : code ≡ 0x05 → top ≡ First → ClosesBefore (Block ∷ outer) behind rest → Front top outer code behind rest
  at_op : (op : Op) (middle : List ℕ) → Begins SpellsOp (code ∷ behind) op middle → ClosesBefore (top ∷ outer) middle rest → Front top outer code behind rest

front : (top : Open) (outer : List Open) (code : ℕ) (behind rest text : List ℕ) → Closes (top ∷ outer) text → code ∷ behind ≡ text ++ rest → Front top outer code behind rest
front top outer code behind rest text (closes_block {rest = r} spells_none c) e = at_end (cc) (r, c, cc)
front top outer code behind rest text (closes_first {rest = r} spells_none c) e = at_end (cc) (r, c, cc)
front top outer code behind rest text (closes_second {rest = r} spells_none c) e = at_else (cc) refl (r, c, cc)
front top outer code behind rest text (closes_block {rest = r} (spells_next {text = a} {more = b} {op = op} s ops) c) e =
    at_op op ((b ++ 0x0b ∷ r) ++ rest) (a, s, e ∙ apart a b r rest 0x0b) (b ++ 0x0b ∷ r, closes_block ops c, refl)
front top outer code behind rest text (closes_first {rest = r} (spells_next {text = a} {more = b} {op = op} s ops) c) e =
    at_op op ((b ++ 0x0b ∷ r) ++ rest) (a, s, e ∙ apart a b r rest 0x0b) (b ++ 0x0b ∷ r, closes_first ops c, refl)
front top outer code behind rest text (closes_second {rest = r} (spells_next {text = a} {more = b} {op = op} s ops) c) e =
    at_op op ((b ++ 0x05 ∷ r) ++ rest) (a, s, e ∙ apart a b r rest 0x05) (b ++ 0x05 ∷ r, closes_second ops c, refl)

front_of : (top : Open) (outer : List Open) (code : ℕ) (bytes behind rest : List ℕ) → bytes ≡ code ∷ behind → ClosesBefore (top ∷ outer) bytes rest → Front top outer code behind rest
front_of top outer code bytes behind rest whole (text, c, e) = front top outer code behind rest text c (sym whole ∙ e)

no_end_op : (end code : ℕ) (behind middle : List ℕ) (op : Op) → code ≡ end → IsEnd end → Begins SpellsOp (code ∷ behind) op middle → ⊥
no_end_op end code behind middle op same is (text, s, e) = no_end code behind middle text op (subst IsEnd (sym same) is) s e

-- 0B ends the innermost block, whichever it is.
closes_end : (top : Open) (outer : List Open) (text : List ℕ) → Closes outer text → Closes (top ∷ outer) (0x0b ∷ text)
closes_end Block outer text c = closes_block spells_none c
closes_end First outer text c = closes_first spells_none c

end_forth : (top : Open) (outer : List Open) (code : ℕ) (behind rest : List ℕ) → code ≡ 0x0b → Front top outer code behind rest → ClosesBefore outer behind rest
end_forth top outer code behind rest same (at_end is before) = before
end_forth top outer code behind rest same (at_else is first before) = absurd (omega arith)
end_forth top outer code behind rest same (at_op op middle b before) = absurd (no_end_op 0x0b code behind middle op same (inl refl) b)

pub end_alike : (top : Open) (outer : List Open) (code : ℕ) (bytes behind : List ℕ) → bytes ≡ code ∷ behind → code ≡ 0x0b → ClosesAlike (top ∷ outer) bytes outer behind
end_alike top outer code bytes behind whole same = λ rest. (
  λ before. end_forth top outer code behind rest same (front_of top outer code bytes behind rest whole before),
  λ (text, c, e). (0x0b ∷ text, closes_end top outer text c, whole ∙ ap (λ z. z ∷ behind) same ∙ ap (λ z. 0x0b ∷ z) e),
)

else_forth : (top : Open) (outer : List Open) (code : ℕ) (behind rest : List ℕ) → code ≡ 0x05 → Front top outer code behind rest → (top ≡ First) × ClosesBefore (Block ∷ outer) behind rest
else_forth top outer code behind rest same (at_end is before) = absurd (omega arith)
else_forth top outer code behind rest same (at_else is first before) = (first, before)
else_forth top outer code behind rest same (at_op op middle b before) = absurd (no_end_op 0x05 code behind middle op same (inr refl) b)

-- 05 begins the second part of an `if`.
pub else_alike : (top : Open) (outer : List Open) (code : ℕ) (bytes behind : List ℕ) → bytes ≡ code ∷ behind → code ≡ 0x05 → top ≡ First → ClosesAlike (top ∷ outer) bytes (Block ∷ outer) behind
else_alike top outer code bytes behind whole same first = λ rest. (
  λ before. (else_forth top outer code behind rest same (front_of top outer code bytes behind rest whole before)).1,
  λ (text, c, e). (0x05 ∷ text, rw first (closes_second spells_none c), whole ∙ ap (λ z. z ∷ behind) same ∙ ap (λ z. 0x05 ∷ z) e),
)

pub else_none : (top : Open) (outer : List Open) (code : ℕ) (bytes behind rest : List ℕ) → bytes ≡ code ∷ behind → code ≡ 0x05 → top ≡ Block → ClosesBefore (top ∷ outer) bytes rest → ⊥
else_none top outer code bytes behind rest whole same no_first before =
    let first = (else_forth top outer code behind rest same (front_of top outer code bytes behind rest whole before)).0 in
    cc

op_forth : (top : Open) (outer : List Open) (code : ℕ) (behind rest : List ℕ) → (code ≡ 0x0b → ⊥) → (code ≡ 0x05 → ⊥) → Front top outer code behind rest → (op : Op) × (middle : List ℕ) × Begins SpellsOp (code ∷ behind) op middle × ClosesBefore (top ∷ outer) middle rest
op_forth top outer code behind rest no_last no_else (at_end is before) = absurd (no_last is)
op_forth top outer code behind rest no_last no_else (at_else is first before) = absurd (no_else is)
op_forth top outer code behind rest no_last no_else (at_op op middle b before) = (op, middle, b, before)

before_along : (opens : List Open) (a b rest : List ℕ) → a ≡ b → ClosesBefore opens a rest → ClosesBefore opens b rest
before_along opens a b rest same (text, c, e) = (text, c, sym same ∙ e)

-- A whole instruction leaves the open blocks as they are.
pub op_alike : (top : Open) (outer : List Open) (code : ℕ) (bytes behind left : List ℕ) (op : Op) → bytes ≡ code ∷ behind → (code ≡ 0x0b → ⊥) → (code ≡ 0x05 → ⊥) → Begins SpellsOp (code ∷ behind) op left → BeginsOnly SpellsOp (code ∷ behind) op left → ClosesAlike (top ∷ outer) bytes (top ∷ outer) left
op_alike top outer code bytes behind left op whole no_last no_else found only = λ rest. (
  λ before.
      let there = op_forth top outer code behind rest no_last no_else (front_of top outer code bytes behind rest whole before) in
      before_along (top ∷ outer) there.1 left rest (only there.0 there.1 there.2).1 there.3,
  λ before. before_along (top ∷ outer) (code ∷ behind) bytes rest (sym whole) (op_before top outer (code ∷ behind) left rest op found before),
)

pub op_none : (top : Open) (outer : List Open) (code : ℕ) (bytes behind rest : List ℕ) → bytes ≡ code ∷ behind → (code ≡ 0x0b → ⊥) → (code ≡ 0x05 → ⊥) → BeginsNone SpellsOp (code ∷ behind) → ClosesBefore (top ∷ outer) bytes rest → ⊥
op_none top outer code bytes behind rest whole no_last no_else none before =
    let there = op_forth top outer code behind rest no_last no_else (front_of top outer code bytes behind rest whole before) in
    none there.0 there.1 there.2

-- A block's type at the front, and behind it the inside of one more open block.
record Enters (inner : Open) (opens : List Open) (behind rest : List ℕ) : Type 0 where
  kind : Option ValType
  inside : List ℕ
  type : Begins SpellsBlockType behind kind inside
  before : ClosesBefore (inner ∷ opens) inside rest

-- the inside of a block, and the end of the blocks around it
inner_before : (depth : ℕ) (outer : List Open) (inside middle rest : List ℕ) (ops : Ops) → Begins (SpellsInner depth) inside ops middle → ClosesBefore outer middle rest → ClosesBefore (Block ∷ outer) inside rest
inner_before depth outer inside middle rest ops (whole, ((body, s, f), n), e) (text, c, g) =
    let there : inside ≡ (body ++ 0x0b ∷ text) ++ rest = rw (e, f, g) (simp append_assoc) in
    (body ++ 0x0b ∷ text, closes_block s c, there)

branches_before : (depth : ℕ) (outer : List Open) (inside middle rest : List ℕ) (both : Ops × Ops) → Begins (SpellsBranches depth) inside both middle → ClosesBefore outer middle rest → ClosesBefore (First ∷ outer) inside rest
branches_before depth outer inside middle rest both (whole, branches_one {bytes = body} s n, e) (text, c, g) =
    let there : inside ≡ (body ++ 0x0b ∷ text) ++ rest = rw (e, g) (simp append_assoc) in
    (body ++ 0x0b ∷ text, closes_first s c, there)
branches_before depth outer inside middle rest both (whole, branches_two {bytes = body} {more = more} s t n, e) (text, c, g) =
    let there : inside ≡ (body ++ 0x05 ∷ (more ++ 0x0b ∷ text)) ++ rest = rw (e, g) (simp append_assoc) in
    (body ++ 0x05 ∷ (more ++ 0x0b ∷ text), closes_second s (closes_block t c), there)

-- An opcode that opens such a block.
pub record Opener (inner : Open) (code : ℕ) : Type 0 where
  forth : (top : Open) (outer : List Open) (behind rest : List ℕ) → ClosesBefore (top ∷ outer) (code ∷ behind) rest → Enters inner (top ∷ outer) behind rest
  back : (top : Open) (outer : List Open) (behind inside rest : List ℕ) (kind : Option ValType) → Begins SpellsBlockType behind kind inside → ClosesBefore (inner ∷ top ∷ outer) inside rest → ClosesBefore (top ∷ outer) (code ∷ behind) rest

-- what stands behind the opcode, by the instruction that it belongs to
entered : {W : Type 0} {make : Option ValType × W → Op} {tag : ℕ} (Inner : ℕ → List ℕ → W → Type 0) (inner : Open)
    → ((depth : ℕ) → IsTag Op (Option ValType × W) (SpellsShallow depth) (Then SpellsBlockType (Inner depth)) make tag)
    → ((depth : ℕ) (outer : List Open) (inside middle rest : List ℕ) (w : W) → Begins (Inner depth) inside w middle → ClosesBefore outer middle rest → ClosesBefore (inner ∷ outer) inside rest)
    → (opens : List Open) (code : ℕ) (behind middle rest : List ℕ) (op : Op) → code ≡ tag → Begins SpellsOp (code ∷ behind) op middle → ClosesBefore opens middle rest → Enters inner opens behind rest
entered Inner inner t inside_before opens code behind middle rest op same (text, s, e) before =
    let found = tagged (t (nesting op)) behind middle text op (s, omega arith) (ap (λ z. z ∷ behind) (sym same) ∙ e) in
    let parts = then_parts SpellsBlockType (Inner (nesting op)) behind middle found.0 found.1 in
    record {
      kind = found.0.0;
      inside = parts.0;
      type = parts.1;
      before = inside_before (nesting op) opens parts.0 middle rest found.0.1 parts.2 before;
    }

forth_of : {W : Type 0} {make : Option ValType × W → Op} {tag : ℕ} (Inner : ℕ → List ℕ → W → Type 0) (inner : Open)
    → ((depth : ℕ) → IsTag Op (Option ValType × W) (SpellsShallow depth) (Then SpellsBlockType (Inner depth)) make tag)
    → ((depth : ℕ) (outer : List Open) (inside middle rest : List ℕ) (w : W) → Begins (Inner depth) inside w middle → ClosesBefore outer middle rest → ClosesBefore (inner ∷ outer) inside rest)
    → (code : ℕ) → code ≡ tag → tag ≤ 0x04 → (top : Open) (outer : List Open) (behind rest : List ℕ) → ClosesBefore (top ∷ outer) (code ∷ behind) rest → Enters inner (top ∷ outer) behind rest
forth_of Inner inner t inside_before code same low top outer behind rest before =
    let there = op_forth top outer code behind rest (λ is. omega arith) (λ is. omega arith) (front_of top outer code (code ∷ behind) behind rest refl before) in
    entered Inner inner t inside_before (top ∷ outer) code behind there.1 rest there.0 same there.2 there.3

-- A block or a loop, of which the inside is spelled.
block_back : (make : Option ValType → Ops → Op) (tag : ℕ)
    → ((type bytes : List ℕ) (kind : Option ValType) (ops : Ops) → SpellsBlockType type kind → SpellsOps bytes ops → SpellsOp (tag ∷ (type ++ (bytes ++ 0x0b ∷ []))) (make kind ops))
    → (code : ℕ) → code ≡ tag → (top : Open) (outer : List Open) (behind inside rest : List ℕ) (kind : Option ValType) → Begins SpellsBlockType behind kind inside → ClosesBefore (Block ∷ top ∷ outer) inside rest → ClosesBefore (top ∷ outer) (code ∷ behind) rest
block_back make tag spell code same top outer behind inside rest kind (type, k, e) (text, closes_block {text = body} {rest = more} {ops = ops} s c, f) =
    let there : code ∷ behind ≡ (tag ∷ (type ++ (body ++ 0x0b ∷ []))) ++ (more ++ rest) = rw (same, e, f) (simp append_assoc) in
    op_before top outer (code ∷ behind) (more ++ rest) rest (make kind ops) (tag ∷ (type ++ (body ++ 0x0b ∷ [])), spell type body kind ops k s, there) (more, c, refl)

if_back : (code : ℕ) → code ≡ 0x04 → (top : Open) (outer : List Open) (behind inside rest : List ℕ) (kind : Option ValType) → Begins SpellsBlockType behind kind inside → ClosesBefore (First ∷ top ∷ outer) inside rest → ClosesBefore (top ∷ outer) (code ∷ behind) rest
if_back code same top outer behind inside rest kind (type, k, e) (text, closes_first {text = body} {rest = more} {ops = ops} s c, f) =
    let there : code ∷ behind ≡ (0x04 ∷ (type ++ (body ++ 0x0b ∷ []))) ++ (more ++ rest) = rw (same, e, f) (simp append_assoc) in
    op_before top outer (code ∷ behind) (more ++ rest) rest _ (0x04 ∷ (type ++ (body ++ 0x0b ∷ [])), spells_if k s, there) (more, c, refl)
if_back code same top outer behind inside rest kind (type, k, e) (text, closes_second {text = body} s (closes_block {text = other} {rest = more} t c), f) =
    let there : code ∷ behind ≡ (0x04 ∷ (type ++ (body ++ 0x05 ∷ (other ++ 0x0b ∷ [])))) ++ (more ++ rest) = rw (same, e, f) (simp append_assoc) in
    op_before top outer (code ∷ behind) (more ++ rest) rest _ (0x04 ∷ (type ++ (body ++ 0x05 ∷ (other ++ 0x0b ∷ []))), spells_if_else k s t, there) (more, c, refl)

opens_block : (code : ℕ) → code ≡ 0x02 → Opener Block code
opens_block code same = record {
  forth = forth_of SpellsInner Block tag_block inner_before code same (omega arith);
  back = block_back block 0x02 (λ type bytes kind ops k s. spells_block k s) code same;
}

opens_loop : (code : ℕ) → code ≡ 0x03 → Opener Block code
opens_loop code same = record {
  forth = forth_of SpellsInner Block tag_loop inner_before code same (omega arith);
  back = block_back loop 0x03 (λ type bytes kind ops k s. spells_loop k s) code same;
}

-- A block or a loop.
pub opens_inner : (code : ℕ) → 0x02 ≤ code → code ≤ 0x03 → Opener Block code
opens_inner code low high = elim (dec_le code 0x02) [ yes h ↦ opens_block code (omega arith) | no h ↦ opens_loop code (omega arith) ]

pub opens_if : (code : ℕ) → code ≡ 0x04 → Opener First code
opens_if code same = record { forth = forth_of SpellsBranches First tag_if branches_before code same (omega arith); back = if_back code same }

-- An opcode and a block's type open one more block.
pub enter_alike : (inner top : Open) (outer : List Open) (code : ℕ) (bytes behind inside : List ℕ) (kind : Option ValType) → Opener inner code → bytes ≡ code ∷ behind → Begins SpellsBlockType behind kind inside → BeginsOnly SpellsBlockType behind kind inside → ClosesAlike (top ∷ outer) bytes (inner ∷ top ∷ outer) inside
enter_alike inner top outer code bytes behind inside kind o whole found only = λ rest. (
  λ before.
      let there = o.forth top outer behind rest (before_along (top ∷ outer) bytes (code ∷ behind) rest whole before) in
      before_along (inner ∷ top ∷ outer) there.inside inside rest (only there.kind there.inside there.type).1 there.before,
  λ before. before_along (top ∷ outer) (code ∷ behind) bytes rest (sym whole) (o.back top outer behind inside rest kind found before),
)

pub enter_none : (inner top : Open) (outer : List Open) (code : ℕ) (bytes behind rest : List ℕ) → Opener inner code → bytes ≡ code ∷ behind → BeginsNone SpellsBlockType behind → ClosesBefore (top ∷ outer) bytes rest → ⊥
enter_none inner top outer code bytes behind rest o whole none before =
    let there = o.forth top outer behind rest (before_along (top ∷ outer) bytes (code ∷ behind) rest whole before) in
    none there.kind there.inside there.type

-- At the begin the expression itself is open.
pub some_before : (bytes rest : List ℕ) → Begins SpellsSome bytes tt rest → ClosesBefore (Block ∷ []) bytes rest
some_before bytes rest (whole, (ops, (text, s, f)), e) = (whole, rw f (closes_block s closes_all), e)

pub before_some : (bytes rest : List ℕ) → ClosesBefore (Block ∷ []) bytes rest → Begins SpellsSome bytes tt rest
before_some bytes rest (whole, closes_block {text = text} {ops = ops} s closes_all, e) = (text ++ 0x0b ∷ [], (ops, (text, s, refl)), e)

-- Where no block is open, all that is left is the rest.
pub all_closed : (left rest : List ℕ) → ClosesBefore [] left rest → rest ≡ left
all_closed left rest (text, closes_all, e) = sym e

-- One turn more, where the blocks before it are named in two ways, and those after it.
pub alike_step : (first before now after then : List Open) (start left new : List ℕ) → before ≡ now → then ≡ after → ClosesAlike first start before left → ClosesAlike now left after new → ClosesAlike first start then new
alike_step first before now after then start left new same made one two =
    let P : List Open → Type 0 = λ z. ClosesAlike first start z left in
    let Q : List Open → Type 0 = λ z. ClosesAlike first start z new in
    let read : P now = subst P same one in
    subst Q (sym made) (λ rest. (λ before. (two rest).0 ((read rest).0 before), λ before. (read rest).1 ((two rest).1 before)))

-- Where the open blocks do not end, no expression is there.
pub alike_none : (before now : List Open) (start left : List ℕ) → before ≡ now → ClosesAlike (Block ∷ []) start before left → ((rest : List ℕ) → ClosesBefore now left rest → ⊥) → BeginsNone SpellsSome start
alike_none before now start left same one none = λ value rest b.
    let P : List Open → Type 0 = λ z. ClosesBefore z left rest in
    none rest (subst P same ((one rest).0 (some_before start rest b)))

pub alike_found : (before : List Open) (start left : List ℕ) → before ≡ [] → ClosesAlike (Block ∷ []) start before left → Begins SpellsSome start tt left
alike_found before start left same one =
    let P : List Open → Type 0 = λ z. ClosesBefore z left left in
    before_some start left ((one left).1 (subst P (sym same) ([], closes_all, refl)))

pub alike_only : (before : List Open) (start left : List ℕ) → before ≡ [] → ClosesAlike (Block ∷ []) start before left → BeginsOnly SpellsSome start tt left
alike_only before start left same one = λ other more b.
    let P : List Open → Type 0 = λ z. ClosesBefore z left more in
    (refl, all_closed left more (subst P same ((one more).0 (some_before start more b))))
