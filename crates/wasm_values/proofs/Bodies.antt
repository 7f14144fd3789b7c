-- Instructions in order: one more at the end, and what stands behind the first ones.
use Rattle.std.proofs.Common.{◌≡◌, ℕ, ◌≤◌, inl, inr, max, List, [], ◌∷◌, ◌++◌, map, refl, ap, sym, ◌∙◌, append_assoc, arith, length, length-append, subst}
use Rattle.std.proofs.lemmas.List.{append-nil, map-append}
use Rattle.byte_fields.specs.Front.{Begins, BeginsOnly, BeginsNone}
use Rattle.wasm_values.specs.Syntax.{Op, Ops, no_ops, next, nesting, ops_nesting}
use Rattle.wasm_values.specs.Instructions.{SpellsOp, SpellsOps, spells_none, spells_next, spells_memory, spells_numeric, spells_float_plain}
use Rattle.wasm_values.specs.View.{ops_of, instr_view, items_view}
use Rattle.wasm_values.specs.inner.Nested.{SpellsShallow, SpellsBody, IsEnd}
use Rattle.wasm_values.specs.declared.instr.Instr.{Instr}
use Rattle.wasm_values.proofs.Opcodes.{op_never, memory_low, numeric_high, plain_high}

-- instructions behind others
abbrev pub prepend : List Op → Ops → Ops
prepend [] ops = ops
prepend (op ∷ done) ops = next op (prepend done ops)

prepend_none : (done : List Op) → prepend done no_ops ≡ ops_of done
prepend_none [] = refl
prepend_none (op ∷ done) = ap (λ z. next op z) (prepend_none done)

prepend_more : (done : List Op) (op : Op) (ops : Ops) → prepend (done ++ op ∷ []) ops ≡ prepend done (next op ops)
prepend_more [] op ops = refl
prepend_more (o ∷ done) op ops = ap (λ z. next o z) (prepend_more done op ops)

ops_push : (xs : List Op) (x : Op) (a b : List ℕ) → SpellsOps a (ops_of xs) → SpellsOp b x → SpellsOps (a ++ b) (ops_of (xs ++ x ∷ []))
ops_push [] x a b spells_none s =
    let one : SpellsOps (b ++ []) (next x no_ops) = spells_next s spells_none in
    rw append-nil at one
ops_push (y ∷ ys) x a b (spells_next {text = f} {more = t} p q) s = rw append_assoc (spells_next p (ops_push ys x t b q s))

nesting_push : (xs : List Op) (x : Op) → ops_nesting (ops_of (xs ++ x ∷ [])) ≡ max (ops_nesting (ops_of xs)) (nesting x)
nesting_push [] x = omega arith
nesting_push (y ∷ ys) x = omega (arith, nesting_push ys x)

viewed_push : (is js : List Instr) (i : Instr) → js ≡ is ++ i ∷ [] → items_view js ≡ ops_of (map instr_view is ++ instr_view i ∷ [])
viewed_push is js i e = rw (e, map-append) refl

pub pushed : (is js : List Instr) (i : Instr) (a b : List ℕ) → js ≡ is ++ i ∷ [] → SpellsOps a (items_view is) → SpellsOp b (instr_view i) → SpellsOps (a ++ b) (items_view js)
pushed is js i a b e p s = rw (viewed_push is js i e) (ops_push (map instr_view is) (instr_view i) a b p s)

pub pushed_nesting : (is js : List Instr) (i : Instr) (n : ℕ) → js ≡ is ++ i ∷ [] → ops_nesting (items_view is) ≤ n → nesting (instr_view i) ≤ n → ops_nesting (items_view js) ≤ n
pushed_nesting is js i n e p d = rw (viewed_push is js i e, nesting_push) (omega arith)

-- No instruction begins with an end byte.
no_last : (text : List ℕ) (op : Op) → SpellsOp (0x0b ∷ text) op → ⊥
no_last text op (spells_memory r s) = let low = memory_low r in omega (arith, low)
no_last text op (spells_numeric r) = let low = numeric_high 0x0b r in omega (arith, low)
no_last text op (spells_float_plain r) = let low = plain_high 0x0b r in omega (arith, low)

no_else : (text : List ℕ) (op : Op) → SpellsOp (0x05 ∷ text) op → ⊥
no_else text op (spells_memory r s) = let low = memory_low r in omega (arith, low)
no_else text op (spells_numeric r) = let low = numeric_high 0x05 r in omega (arith, low)
no_else text op (spells_float_plain r) = let low = plain_high 0x05 r in omega (arith, low)

pub no_end : (end : ℕ) (bytes rest text : List ℕ) (op : Op) → IsEnd end → SpellsOp text op → end ∷ bytes ≡ text ++ rest → ⊥
no_end end bytes rest [] op is s e = op_never op s
no_end end bytes rest (first ∷ text) op (inl is) s e =
    let same : first ≡ 0x0b = cc in
    let P : ℕ → Type 0 = λ z. SpellsOp (z ∷ text) op in
    no_last text op (subst P same s)
no_end end bytes rest (first ∷ text) op (inr is) s e =
    let same : first ≡ 0x05 = cc in
    let P : ℕ → Type 0 = λ z. SpellsOp (z ∷ text) op in
    no_else text op (subst P same s)

-- What stands behind the first instructions of a body.
pub record LaterOps (depth : ℕ) (body : Ops × ℕ) (done : List Op) (left rest : List ℕ) : Type 0 where
  pub later : Ops
  pub text : List ℕ
  pub spelled : SpellsOps text later
  pub ends : IsEnd body.1
  pub nested : ops_nesting later ≤ depth
  pub whole : left ≡ text ++ body.1 ∷ rest
  pub all : body.0 ≡ prepend done later

pub later_ops_start : (depth : ℕ) (body : Ops × ℕ) (bytes rest : List ℕ) → Begins (SpellsBody depth) bytes body rest → LaterOps depth body [] bytes rest
later_ops_start depth body bytes rest (whole, (text, s, is, n, f), e) = record {
  later = body.0;
  text = text;
  spelled = s;
  ends = is;
  nested = n;
  whole = e ∙ ap (λ z. z ++ rest) f ∙ append_assoc text (body.1 ∷ []) rest;
  all = refl;
}

step : (depth : ℕ) (body : Ops × ℕ) (done : List Op) (left rest behind new : List ℕ) (code : ℕ) (op : Op) (later : Ops) (text : List ℕ) → SpellsOps text later → IsEnd body.1 → ops_nesting later ≤ depth → left ≡ text ++ body.1 ∷ rest → body.0 ≡ prepend done later → left ≡ code ∷ behind → (IsEnd code → ⊥) → BeginsOnly (SpellsShallow depth) (code ∷ behind) op new → LaterOps depth body (done ++ op ∷ []) new rest
step depth body done left rest behind new code op no_ops text spells_none is n w all e not only =
    let same : body.1 ≡ code = cc in
    absurd (not (subst IsEnd same is))
step depth body done left rest behind new code op (next o os) text (spells_next {text = a} {more = b} p ps) is n w all e not only =
    let here : code ∷ behind ≡ a ++ (b ++ body.1 ∷ rest) = sym e ∙ w ∙ append_assoc a b (body.1 ∷ rest) in
    let one = only o (b ++ body.1 ∷ rest) (a, (p, omega arith), here) in
    record {
      later = os;
      text = b;
      spelled = ps;
      ends = is;
      nested = omega arith;
      whole = sym one.1;
      all = all ∙ ap (λ z. prepend done (next z os)) one.0 ∙ sym (prepend_more done op os);
    }

pub later_ops_step : (depth : ℕ) (body : Ops × ℕ) (done : List Op) (left rest behind new : List ℕ) (code : ℕ) (op : Op) → LaterOps depth body done left rest → left ≡ code ∷ behind → (IsEnd code → ⊥) → BeginsOnly (SpellsShallow depth) (code ∷ behind) op new → LaterOps depth body (done ++ op ∷ []) new rest
later_ops_step depth body done left rest behind new code op r e not only = step depth body done left rest behind new code op r.later r.text r.spelled r.ends r.nested r.whole r.all e not only

none : (depth : ℕ) (body : Ops × ℕ) (left rest behind : List ℕ) (code : ℕ) (later : Ops) (text : List ℕ) → SpellsOps text later → IsEnd body.1 → ops_nesting later ≤ depth → left ≡ text ++ body.1 ∷ rest → left ≡ code ∷ behind → (IsEnd code → ⊥) → BeginsNone (SpellsShallow depth) (code ∷ behind) → ⊥
none depth body left rest behind code no_ops text spells_none is n w e not bad =
    let same : body.1 ≡ code = cc in
    not (subst IsEnd same is)
none depth body left rest behind code (next o os) text (spells_next {text = a} {more = b} p ps) is n w e not bad =
    bad o (b ++ body.1 ∷ rest) (a, (p, omega arith), sym e ∙ w ∙ append_assoc a b (body.1 ∷ rest))

pub later_ops_none : (depth : ℕ) (body : Ops × ℕ) (done : List Op) (left rest behind : List ℕ) (code : ℕ) → LaterOps depth body done left rest → left ≡ code ∷ behind → (IsEnd code → ⊥) → BeginsNone (SpellsShallow depth) (code ∷ behind) → ⊥
later_ops_none depth body done left rest behind code r e not bad = none depth body left rest behind code r.later r.text r.spelled r.ends r.nested r.whole e not bad

end : (depth : ℕ) (body : Ops × ℕ) (done : List Op) (left rest behind : List ℕ) (code : ℕ) (later : Ops) (text : List ℕ) → SpellsOps text later → left ≡ text ++ body.1 ∷ rest → body.0 ≡ prepend done later → left ≡ code ∷ behind → IsEnd code → (body ≡ (ops_of done, code)) × (rest ≡ behind)
end depth body done left rest behind code no_ops text spells_none w all e is =
    let last : body.1 ≡ code = cc in
    let tail : rest ≡ behind = cc in
    let ops : body.0 ≡ ops_of done = all ∙ prepend_none done in
    let both : body ≡ (ops_of done, code) = ap (λ (x : Ops). let p : Ops × ℕ = (x, body.1) in p) ops ∙ ap (λ (y : ℕ). let p : Ops × ℕ = (ops_of done, y) in p) last in
    (both, tail)
end depth body done left rest behind code (next o os) text (spells_next {text = a} {more = b} p ps) w all e is =
    absurd (no_end code behind (b ++ body.1 ∷ rest) a o is p (sym e ∙ w ∙ append_assoc a b (body.1 ∷ rest)))

pub later_ops_end : (depth : ℕ) (body : Ops × ℕ) (done : List Op) (left rest behind : List ℕ) (code : ℕ) → LaterOps depth body done left rest → left ≡ code ∷ behind → IsEnd code → (body ≡ (ops_of done, code)) × (rest ≡ behind)
later_ops_end depth body done left rest behind code r e is = end depth body done left rest behind code r.later r.text r.spelled r.whole r.all e is

-- Where no bytes are left, nothing stands behind.
pub later_ops_short : (depth : ℕ) (body : Ops × ℕ) (done : List Op) (left rest : List ℕ) → LaterOps depth body done left rest → left ≡ [] → ⊥
later_ops_short depth body done left rest r e =
    let n : length (r.text ++ body.1 ∷ rest) ≡ 0 = ap length (sym r.whole ∙ e) in
    omega (arith, n, length-append r.text (body.1 ∷ rest))

pub body_found : (depth code : ℕ) (bytes text left behind : List ℕ) (ops : Ops) → SpellsOps text ops → IsEnd code → ops_nesting ops ≤ depth → bytes ≡ text ++ left → left ≡ code ∷ behind → Begins (SpellsBody depth) bytes (ops, code) behind
body_found depth code bytes text left behind ops s is n e f = (text ++ code ∷ [], (text, s, is, n, refl), e ∙ ap (λ z. text ++ z) f ∙ sym (append_assoc text (code ∷ []) behind))

pub no_end_byte : (code : ℕ) → (code ≡ 0x0b → ⊥) → (code ≡ 0x05 → ⊥) → IsEnd code → ⊥
no_end_byte code a b (inl e) = a e
no_end_byte code a b (inr e) = b e
