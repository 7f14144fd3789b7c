-- Shortest spellings of instructions one behind the other, and of those that hold others.
use Rattle.std.proofs.Common.{◌≡◌, ℕ, suc, ◌≤◌, List, [], ◌∷◌, ◌++◌, length, length-append, refl, ap, sym, ◌∙◌, subst, arith, map, Option}
use Rattle.std.proofs.lemmas.List.{append-nil}
use Rattle.byte_fields.specs.Front.{SpellsShortest}
use Rattle.wasm_values.specs.Spelling.{SpellsU32, Then, SpellsEach, each_none, each_next}
use Rattle.wasm_values.specs.Syntax.{Op, Ops, no_ops, if_else, load, store, float_memory, numeric, float_plain}
use Rattle.wasm_values.specs.Values.{SpellsBlockType}
use Rattle.wasm_values.specs.Instructions.{SpellsOp, SpellsOps, spells_none, spells_next, SpellsExpression}
use Rattle.wasm_values.specs.View.{ops_of, instr_view, instrs_view, items_view}
use Rattle.wasm_values.specs.declared.types.ValType.{ValType}
use Rattle.wasm_values.specs.declared.instr.Instr.{Instr}
use Rattle.wasm_values.specs.declared.instr.Instrs.{Instrs}
use Rattle.wasm_values.proofs.Views.{view_instrs}
use Rattle.wasm_values.proofs.Opcodes.{SpellsNothing}
use Rattle.wasm_encode.specs.inner.Gains.{IsSpelled, Gains}
use Rattle.wasm_encode.specs.inner.Parts.{SpellsBranches, branches_one, branches_two}
use Rattle.wasm_encode.proofs.Shortest.{gains_then, second_spelled, joined}
use Rattle.wasm_encode.proofs.Tagged.{IsTagged, gains_tagged, inner_spelled}
use Rattle.wasm_encode.proofs.Ops.{if_tagged, load_tagged, store_tagged, float_memory_tagged, numeric_tagged, float_plain_tagged}

-- Instructions are a list.
ops_each : (list : List Op) {text : List ℕ} → SpellsOps text (ops_of list) → SpellsEach SpellsOp text list
ops_each [] spells_none = each_none
ops_each (op ∷ ops) (spells_next s ss) = each_next s (ops_each ops ss)

each_ops : (list : List Op) {text : List ℕ} → SpellsEach SpellsOp text list → SpellsOps text (ops_of list)
each_ops [] each_none = spells_none
each_ops (op ∷ ops) (each_next s ss) = spells_next s (each_ops ops ss)

pub instrs_spelled : (instrs : Instrs) → IsSpelled SpellsOps (instrs_view instrs) → IsSpelled (SpellsEach SpellsOp) (map instr_view instrs.list)
instrs_spelled instrs (text, s) =
    let P : Ops → Type 0 = λ z. SpellsOps text z in
    (text, ops_each (map instr_view instrs.list) (subst P (view_instrs instrs) s))

pub gains_instrs : (instrs : Instrs) (a b : List ℕ) → Gains (SpellsEach SpellsOp) (map instr_view instrs.list) a b → Gains SpellsOps (instrs_view instrs) a b
gains_instrs instrs a b (text, s, e) =
    let list : List Op = map instr_view instrs.list in
    let P : Ops → Type 0 = λ z. SpellsShortest SpellsOps text z in
    let shortest : SpellsShortest SpellsOps text (ops_of list) = (each_ops list s.0, λ other t. s.1 other (ops_each list t)) in
    (text, subst P (sym (view_instrs instrs)) shortest, e)

-- An expression, which ends in 0B.
pub expression_spelled : (ops : Ops) → IsSpelled SpellsExpression ops → IsSpelled SpellsOps ops
expression_spelled ops (text, (inside, s, e)) = (inside, s)

ended : (a b c text more : List ℕ) → b ≡ a ++ text → c ≡ b ++ more → c ≡ a ++ (text ++ more)
ended a b c text more e f = joined a b c text more e f

behind_least : (text more other inside : List ℕ) → other ≡ inside ++ more → length text ≤ length inside → length (text ++ more) ≤ length other
behind_least text more other inside e h = omega (arith, length-append text more, length-append inside more, ap length e)

pub gains_expression : (ops : Ops) (a b c : List ℕ) → Gains SpellsOps ops a b → c ≡ b ++ 0x0b ∷ [] → Gains SpellsExpression ops a c
gains_expression ops a b c (text, s, e) f =
    (text ++ 0x0b ∷ [], ((text, s.0, refl), λ other (inside, t, g). behind_least text (0x0b ∷ []) other inside g (s.1 inside t)), ended a b c text (0x0b ∷ []) e f)

-- What a block or a loop holds.
pub nest_spelled : {make : Option ValType × Ops → Op} {tag : ℕ} → IsTagged Op (Option ValType × Ops) SpellsOp (Then SpellsBlockType SpellsExpression) make tag → (kind : Option ValType) (ops : Ops) (view : Op) → view ≡ make (kind, ops) → IsSpelled SpellsOp view → IsSpelled SpellsOps ops
nest_spelled t kind ops view is s = expression_spelled ops (second_spelled SpellsBlockType SpellsExpression (kind, ops) (inner_spelled t (kind, ops) view is s))

pub gains_nest : {make : Option ValType × Ops → Op} {tag : ℕ} → IsTagged Op (Option ValType × Ops) SpellsOp (Then SpellsBlockType SpellsExpression) make tag → (kind : Option ValType) (ops : Ops) (view : Op) (a b c d : List ℕ) → view ≡ make (kind, ops) → Gains SpellsBlockType kind (a ++ tag ∷ []) b → Gains SpellsOps ops b c → d ≡ c ++ 0x0b ∷ [] → Gains SpellsOp view a d
gains_nest {tag = tag} t kind ops view a b c d is s u e =
    gains_tagged t (kind, ops) view a (a ++ tag ∷ []) d is refl (gains_then SpellsBlockType SpellsExpression kind ops (a ++ tag ∷ []) b d s (gains_expression ops b c d u e))

-- The parts of an `if`.
pub first_branch : (first second : Ops) → IsSpelled SpellsBranches (first, second) → IsSpelled SpellsOps first
first_branch first second (text, branches_one {bytes = bytes} s) = (bytes, s)
first_branch first second (text, branches_two {bytes = bytes} s t) = (bytes, s)

pub second_branch : (first second : Ops) → IsSpelled SpellsBranches (first, second) → IsSpelled SpellsOps second
second_branch first second (text, branches_one s) = ([], spells_none)
second_branch first second (text, branches_two {more = more} s t) = (more, t)

pub if_spelled : (kind : Option ValType) (first second : Ops) (view : Op) → view ≡ if_else kind first second → IsSpelled SpellsOp view → IsSpelled SpellsBranches (first, second)
if_spelled kind first second view is s = second_spelled SpellsBlockType SpellsBranches (kind, (first, second)) (inner_spelled if_tagged (kind, (first, second)) view is s)

-- One part alone ends in 0B, and is shorter than two.
alone_least : (text : List ℕ) (first second : Ops) → SpellsShortest SpellsOps text first → (other : List ℕ) → SpellsBranches other (first, second) → length (text ++ 0x0b ∷ []) ≤ length other
alone_least text first second s other (branches_one {bytes = bytes} t) = behind_least text (0x0b ∷ []) other bytes refl (s.1 bytes t)
alone_least text first second s other (branches_two {bytes = bytes} {more = more} t u) =
    omega (arith, s.1 bytes t, length-append text (0x0b ∷ []), length-append bytes (0x05 ∷ (more ++ 0x0b ∷ [])))

both_least : (text last : List ℕ) (first second : Ops) → (second ≡ no_ops → ⊥) → SpellsShortest SpellsOps text first → SpellsShortest SpellsOps last second → {both : Ops × Ops} (other : List ℕ) → SpellsBranches other both → both ≡ (first, second) → length (text ++ 0x05 ∷ (last ++ 0x0b ∷ [])) ≤ length other
both_least text last first second some s t other (branches_one u) is = absurd (some (sym (ap (λ (z : Ops × Ops). z.1) is)))
both_least text last first second some s t other (branches_two {bytes = bytes} {more = more} {first = one} {second = two} u v) is =
    let P : Ops → Type 0 = λ z. SpellsOps bytes z in
    let Q : Ops → Type 0 = λ z. SpellsOps more z in
    let here = s.1 bytes (subst P (ap (λ (z : Ops × Ops). z.0) is) u) in
    let there = t.1 more (subst Q (ap (λ (z : Ops × Ops). z.1) is) v) in
    omega (arith, here, there, length-append text (0x05 ∷ (last ++ 0x0b ∷ [])), length-append last (0x0b ∷ []), length-append bytes (0x05 ∷ (more ++ 0x0b ∷ [])), length-append more (0x0b ∷ []))

gains_alone_part : (first : Ops) (b c d : List ℕ) → Gains SpellsOps first b c → d ≡ c ++ 0x0b ∷ [] → Gains SpellsBranches (first, no_ops) b d
gains_alone_part first b c d (text, s, e) f =
    (text ++ 0x0b ∷ [], (branches_one s.0, λ other t. alone_least text first no_ops s other t), ended b c d text (0x0b ∷ []) e f)

gains_both : (first second : Ops) (b c d e f : List ℕ) → (second ≡ no_ops → ⊥) → Gains SpellsOps first b c → d ≡ c ++ 0x05 ∷ [] → Gains SpellsOps second d e → f ≡ e ++ 0x0b ∷ [] → Gains SpellsBranches (first, second) b f
gains_both first second b c d e f some (text, s, g) h (last, t, i) j =
    let tail : f ≡ d ++ (last ++ 0x0b ∷ []) = joined d e f last (0x0b ∷ []) i j in
    let more : f ≡ c ++ 0x05 ∷ (last ++ 0x0b ∷ []) = joined c d f (0x05 ∷ []) (last ++ 0x0b ∷ []) h tail in
    (text ++ 0x05 ∷ (last ++ 0x0b ∷ []), (branches_two s.0 t.0, λ other u. both_least text last first second some s t other u refl), joined b c f text (0x05 ∷ (last ++ 0x0b ∷ [])) g more)

gains_if : (kind : Option ValType) (first second : Ops) (view : Op) (a b d : List ℕ) → view ≡ if_else kind first second → Gains SpellsBlockType kind (a ++ 0x04 ∷ []) b → Gains SpellsBranches (first, second) b d → Gains SpellsOp view a d
gains_if kind first second view a b d is s t =
    gains_tagged if_tagged (kind, (first, second)) view a (a ++ 0x04 ∷ []) d is refl (gains_then SpellsBlockType SpellsBranches kind (first, second) (a ++ 0x04 ∷ []) b d s t)

none_of : (list : List Instr) → length list ≡ 0 → items_view list ≡ no_ops
none_of [] e = refl
none_of (i ∷ is) e = absurd (omega (arith, e))

some_of : (list : List Instr) → items_view list ≡ no_ops → length list ≡ 0
some_of [] e = refl
some_of (i ∷ is) e = absurd (cc)

pub gains_if_one : (kind : Option ValType) (first : Ops) (second : Instrs) (view : Op) (a b c d : List ℕ) → view ≡ if_else kind first (instrs_view second) → length second.list ≡ 0 → Gains SpellsBlockType kind (a ++ 0x04 ∷ []) b → Gains SpellsOps first b c → d ≡ c ++ 0x0b ∷ [] → Gains SpellsOp view a d
gains_if_one kind first second view a b c d is none s t e =
    let empty : instrs_view second ≡ no_ops = view_instrs second ∙ none_of second.list none in
    gains_if kind first no_ops view a b d (is ∙ ap (if_else kind first) empty) s (gains_alone_part first b c d t e)

pub gains_if_both : (kind : Option ValType) (first : Ops) (second : Instrs) (view : Op) (a b c d e f : List ℕ) → view ≡ if_else kind first (instrs_view second) → suc 0 ≤ length second.list → Gains SpellsBlockType kind (a ++ 0x04 ∷ []) b → Gains SpellsOps first b c → d ≡ c ++ 0x05 ∷ [] → Gains SpellsOps (instrs_view second) d e → f ≡ e ++ 0x0b ∷ [] → Gains SpellsOp view a f
gains_if_both kind first second view a b c d e f is some s t g u h =
    let never : instrs_view second ≡ no_ops → ⊥ = λ none. let zero = some_of second.list (sym (view_instrs second) ∙ none) in omega (arith, zero) in
    gains_if kind first (instrs_view second) view a b f is s (gains_both first (instrs_view second) b c d e f never t g u h)

-- An instruction that is its opcode alone.
pub gains_nothing : (a : List ℕ) → Gains SpellsNothing tt a a
gains_nothing a = ([], (refl, λ other e. omega arith), sym (append-nil a))

pub gains_opcode : {make : Unit {0} → Op} {tag : ℕ} → IsTagged Op (Unit {0}) SpellsOp SpellsNothing make tag → (view : Op) (a b : List ℕ) → view ≡ make tt → b ≡ a ++ tag ∷ [] → Gains SpellsOp view a b
gains_opcode t view a b is e = gains_tagged t tt view a b b is e (gains_nothing b)

-- The instruction may be seen in another way.
pub gains_seen : (view op : Op) (a b : List ℕ) → view ≡ op → Gains SpellsOp op a b → Gains SpellsOp view a b
gains_seen view op a b is (text, s, e) =
    let P : Op → Type 0 = λ z. SpellsShortest SpellsOp text z in
    (text, subst P (sym is) s, e)

pub spelled_seen : (view op : Op) → view ≡ op → IsSpelled SpellsOp view → IsSpelled SpellsOp op
spelled_seen view op is (text, s) =
    let P : Op → Type 0 = λ z. SpellsOp text z in
    (text, subst P is s)

-- Loads, stores and operations, whose opcodes are those of the instruction.
pub gains_load : (code align offset : ℕ) (view : Op) (a b : List ℕ) → view ≡ load code align offset → IsSpelled SpellsOp view → Gains (Then SpellsU32 SpellsU32) (align, offset) (a ++ code ∷ []) b → Gains SpellsOp view a b
gains_load code align offset view a b is s t =
    let spelled = spelled_seen view (load code align offset) is s in
    gains_tagged (load_tagged spelled.0 code align offset spelled.1) (align, offset) view a (a ++ code ∷ []) b is refl t

pub gains_store : (code align offset : ℕ) (view : Op) (a b : List ℕ) → view ≡ store code align offset → IsSpelled SpellsOp view → Gains (Then SpellsU32 SpellsU32) (align, offset) (a ++ code ∷ []) b → Gains SpellsOp view a b
gains_store code align offset view a b is s t =
    let spelled = spelled_seen view (store code align offset) is s in
    gains_tagged (store_tagged spelled.0 code align offset spelled.1) (align, offset) view a (a ++ code ∷ []) b is refl t

pub gains_float_memory : (code align offset : ℕ) (view : Op) (a b : List ℕ) → view ≡ float_memory code align offset → IsSpelled SpellsOp view → Gains (Then SpellsU32 SpellsU32) (align, offset) (a ++ code ∷ []) b → Gains SpellsOp view a b
gains_float_memory code align offset view a b is s t =
    let spelled = spelled_seen view (float_memory code align offset) is s in
    gains_tagged (float_memory_tagged spelled.0 code align offset spelled.1) (align, offset) view a (a ++ code ∷ []) b is refl t

pub gains_numeric : (code : ℕ) (view : Op) (a b : List ℕ) → view ≡ numeric code → IsSpelled SpellsOp view → b ≡ a ++ code ∷ [] → Gains SpellsOp view a b
gains_numeric code view a b is s e =
    let spelled = spelled_seen view (numeric code) is s in
    gains_opcode (numeric_tagged spelled.0 code spelled.1) view a b is e

pub gains_float_plain : (code : ℕ) (view : Op) (a b : List ℕ) → view ≡ float_plain code → IsSpelled SpellsOp view → b ≡ a ++ code ∷ [] → Gains SpellsOp view a b
gains_float_plain code view a b is s e =
    let spelled = spelled_seen view (float_plain code) is s in
    gains_opcode (float_plain_tagged spelled.0 code spelled.1) view a b is e
