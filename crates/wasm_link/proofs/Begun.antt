-- The memory, the globals and the table that an instance begins with, one entry after the other.
use Rattle.std.proofs.Common.{◌≡◌, ℕ, ◌+◌, ◌*◌, ◌<◌, ◌≤◌, List, [], ◌∷◌, ◌++◌, length, get_or, map, take, drop, refl, ap, sym, ◌∙◌, subst, arith, length-append, length-drop, append_assoc, Option, Some, None, slice_set, All}
use Rattle.std.specs.Prelude.{replicate}
use Rattle.std.proofs.lemmas.List.{length-map, length-replicate, length-take-le, drop_all, drop_more, map_more, set_at, map_push}
use Rattle.std.proofs.lemmas.List.Elements.{All-more, All-head, All-tail}
use Rattle.wasm_values.specs.Syntax.{Op, Ops, next, i32_const, i64_const}
use Rattle.wasm_values.specs.View.{items_view, instr_view, instrs_view}
use Rattle.wasm_module.specs.Entries.{element_view, segment_view, global_view}
use Rattle.wasm_module.specs.declared.elements.Element.{Element}
use Rattle.wasm_module.specs.declared.globals.GlobalDef.{GlobalDef}
use Rattle.wasm_values.specs.declared.instr.Instr.{Instr}
use Rattle.wasm_module.specs.declared.segments.Segment.{Segment}
use Rattle.wasm_values.specs.declared.types.ValType.{ValType}
use Rattle.wasm_typing.specs.Typing.{IsConstant}
use Rattle.wasm_soundness.specs.Typed.{IsValue}
use Rattle.wasm_store.specs.Memory.{Memory, written}
use Rattle.wasm_values.specs.declared.types.Bounds.{Bounds}
use Rattle.wasm_link.specs.Linking.{Fits, constant, filled, first_memory, first_table, with_segments}
use Rattle.wasm_link.specs.Made.{element_span, data_span}

-- ---- constants

two_ops : (op other : Op) (ops : Ops) → constant (next op (next other ops)) ≡ 0
two_ops (i32_const number) other ops = refl
two_ops (i64_const number) other ops = refl
two_ops _ other ops = refl

pub no_constant : (items : List Instr) → (length items ≡ 1 → ⊥) → constant (items_view items) ≡ 0
no_constant [] other = refl
no_constant (x ∷ []) other = absurd (other refl)
no_constant (x ∷ y ∷ items) other = two_ops (instr_view x) (instr_view y) (items_view items)

-- ---- the memory

pub written_size : (memory : Memory) (at : ℕ) (bytes : List ℕ) → at + length bytes ≤ length memory.bytes → length (written memory at bytes).bytes ≡ length memory.bytes
written_size memory at bytes fits =
    let first = length-take-le at memory.bytes (omega (arith, fits)) in
    let last = length-drop (at + length bytes) memory.bytes in
    let both = length-append bytes (drop (at + length bytes) memory.bytes) in
    let all = length-append (take at memory.bytes) (bytes ++ drop (at + length bytes) memory.bytes) in
    omega (arith, first, last, both, all, fits)

module _ (segments : List Segment) (at size : ℕ) (x : Segment) (below : at < length segments) (is : x ≡ get_or segments at x) (old new start : Memory) (offset : ℕ) (bytes : List ℕ)
    (fit : All (λ segment. Fits (data_span size segment)) segments) (count : length old.bytes ≡ size) (offset_is : offset ≡ constant (instrs_view x.offset)) (bytes_is : bytes ≡ x.bytes) where
  pub data_fits_here : offset + length bytes ≤ length old.bytes
  data_fits_here =
      let fits : constant (instrs_view x.offset) + length x.bytes ≤ size = subst (λ (z : Segment). constant (instrs_view z.offset) + length z.bytes ≤ size) (sym is) (fit at x below) in
      let same = ap length bytes_is in
      omega (arith, fits, same, count, offset_is)

  module _ (made : new ≡ written old offset bytes) where
    pub size_kept : length new.bytes ≡ size
    size_kept = ap (λ (z : Memory). length z.bytes) made ∙ written_size old offset bytes data_fits_here ∙ count

    pub segments_more : with_segments old (map segment_view (drop at segments)) ≡ with_segments start (map segment_view segments) → with_segments new (map segment_view (drop (at + 1) segments)) ≡ with_segments start (map segment_view segments)
    segments_more so_far =
        let rest : drop at segments ≡ x ∷ drop (at + 1) segments = drop_more segments at x below ∙ ap (λ z. z ∷ drop (at + 1) segments) (sym is) in
        let step : with_segments old (map segment_view (drop at segments)) ≡ with_segments (written old (constant (instrs_view x.offset)) x.bytes) (map segment_view (drop (at + 1) segments)) = ap (λ z. with_segments old (map segment_view z)) rest in
        let same : new ≡ written old (constant (instrs_view x.offset)) x.bytes = made ∙ ap (λ z. written old z bytes) offset_is ∙ ap (λ z. written old (constant (instrs_view x.offset)) z) bytes_is in
        ap (λ z. with_segments z (map segment_view (drop (at + 1) segments))) same ∙ sym step ∙ so_far

pub segments_end : (segments : List Segment) (at : ℕ) (now start : Memory) → length segments ≤ at → with_segments now (map segment_view (drop at segments)) ≡ with_segments start (map segment_view segments) → now ≡ with_segments start (map segment_view segments)
segments_end segments at now start past so_far = sym (ap (λ z. with_segments now (map segment_view z)) (drop_all at segments past)) ∙ so_far

pub segments_size : (memory : Memory) (segments : List Segment) → All (λ segment. Fits (data_span (length memory.bytes) segment)) segments → length (with_segments memory (map segment_view segments)).bytes ≡ length memory.bytes
segments_size memory [] fit = refl
segments_size memory (x ∷ xs) fit =
    let P : Segment → Type 0 = λ segment. Fits (data_span (length memory.bytes) segment) in
    let one = written_size memory (constant (instrs_view x.offset)) x.bytes (All-head P x xs fit) in
    segments_size (written memory (constant (instrs_view x.offset)) x.bytes) xs (subst (λ (z : ℕ). All (λ segment. Fits (data_span z segment)) xs) (sym one) (All-tail P x xs fit)) ∙ one

pub segments_limit : (memory : Memory) (segments : List Segment) → (with_segments memory (map segment_view segments)).limit ≡ memory.limit
segments_limit memory [] = refl
segments_limit memory (x ∷ xs) = segments_limit (written memory (constant (instrs_view x.offset)) x.bytes) xs

pub first_blank : (memories : List Bounds) → (first_memory memories).bytes ≡ replicate (length (first_memory memories).bytes) 0
first_blank [] = ap (λ z. replicate z 0) (sym (length-replicate {A = ℕ} (0 * 65536) 0))
first_blank (bounds ∷ more) = ap (λ z. replicate z 0) (sym (length-replicate {A = ℕ} (bounds.min * 65536) 0))

-- ---- the table
-- ---- the table

-- one more function, written behind those so far
pub filled_more : (start old new : List (Option ℕ)) (offset at func : ℕ) (funcs : List ℕ) → offset + length funcs ≤ length start → at < length funcs → func ≡ get_or funcs at 0
    → old ≡ take offset start ++ (map Some (take at funcs) ++ drop (offset + at) start) → new ≡ slice_set old (offset + at) (Some func)
    → new ≡ take offset start ++ (map Some (take (at + 1) funcs) ++ drop (offset + (at + 1)) start)
filled_more start old new offset at func funcs fits below is so_far made =
    let front = take offset start ++ map Some (take at funcs) in
    let there : get_or start (offset + at) None ∷ drop (offset + at + 1) start ≡ drop (offset + at) start = sym (drop_more start (offset + at) None (omega (arith, fits, below))) in
    let split : old ≡ front ++ get_or start (offset + at) None ∷ drop (offset + at + 1) start =
    so_far ∙ sym (append_assoc (take offset start) (map Some (take at funcs)) (drop (offset + at) start)) ∙ ap (λ z. front ++ z) (sym there) in
    let one = length-take-le offset start (omega (arith, fits)) in
    let two = length-take-le at funcs (omega (arith, below)) in
    let three = length-map (take at funcs) (λ (z : ℕ). Some z) in
    let four = length-append (take offset start) (map Some (take at funcs)) in
    let size : length front ≡ offset + at = omega (arith, one, two, three, four) in
    let put : new ≡ front ++ Some func ∷ drop (offset + at + 1) start = made ∙ ap (λ z. slice_set z (offset + at) (Some func)) split ∙ set_at front (get_or start (offset + at) None) (drop (offset + at + 1) start) (Some func) (offset + at) size in
    let joined : front ++ Some func ∷ drop (offset + at + 1) start ≡ take offset start ++ ((map Some (take at funcs) ++ Some func ∷ []) ++ drop (offset + at + 1) start) =
    append_assoc (take offset start) (map Some (take at funcs)) (Some func ∷ drop (offset + at + 1) start)
    ∙ ap (λ z. take offset start ++ z) (sym (append_assoc (map Some (take at funcs)) (Some func ∷ []) (drop (offset + at + 1) start))) in
    let mapped : map Some (take at funcs) ++ Some func ∷ [] ≡ map Some (take (at + 1) funcs) = ap (λ z. map Some (take at funcs) ++ Some z ∷ []) is ∙ sym (map_more Some funcs at 0 below) in
    let place : offset + at + 1 ≡ offset + (at + 1) = omega arith in
    put ∙ joined ∙ ap (λ z. take offset start ++ (z ++ drop (offset + at + 1) start)) mapped ∙ ap (λ z. take offset start ++ (map Some (take (at + 1) funcs) ++ drop z start)) place

filled_size : (start : List (Option ℕ)) (offset : ℕ) (funcs : List ℕ) → offset + length funcs ≤ length start → length (take offset start ++ (map Some funcs ++ drop (offset + length funcs) start)) ≡ length start
filled_size start offset funcs fits =
    let one = length-take-le offset start (omega (arith, fits)) in
    let two = length-drop (offset + length funcs) start in
    let three = length-map funcs (λ (z : ℕ). Some z) in
    let four = length-append (map Some funcs) (drop (offset + length funcs) start) in
    let five = length-append (take offset start) (map Some funcs ++ drop (offset + length funcs) start) in
    omega (arith, one, two, three, four, five, fits)

module _ (elements : List Element) (at size : ℕ) (x : Element) (below : at < length elements) (is : x ≡ get_or elements at x) (old new start : List (Option ℕ)) (offset : ℕ) (funcs : List ℕ)
    (fit : All (λ segment. Fits (element_span size segment)) elements) (count : length old ≡ size) (offset_is : offset ≡ constant (instrs_view x.offset)) (funcs_is : funcs ≡ x.funcs) where
  pub element_fits_here : offset + length funcs ≤ length old
  element_fits_here =
      let fits : constant (instrs_view x.offset) + length x.funcs ≤ size = subst (λ (z : Element). constant (instrs_view z.offset) + length z.funcs ≤ size) (sym is) (fit at x below) in
      let same = ap length funcs_is in
      omega (arith, fits, same, count, offset_is)

  module _ (made : new ≡ take offset old ++ (map Some funcs ++ drop (offset + length funcs) old)) where
    pub table_size_kept : length new ≡ size
    table_size_kept = ap length made ∙ filled_size old offset funcs element_fits_here ∙ count

    pub elements_more : first_table old (map element_view (drop at elements)) ≡ first_table start (map element_view elements) → first_table new (map element_view (drop (at + 1) elements)) ≡ first_table start (map element_view elements)
    elements_more so_far =
        let rest : drop at elements ≡ x ∷ drop (at + 1) elements = drop_more elements at x below ∙ ap (λ z. z ∷ drop (at + 1) elements) (sym is) in
        let step : first_table old (map element_view (drop at elements)) ≡ first_table (filled old (element_view x)) (map element_view (drop (at + 1) elements)) = ap (λ z. first_table old (map element_view z)) rest in
        let same : new ≡ filled old (element_view x) =
        made ∙ ap (λ z. take z old ++ (map Some funcs ++ drop (z + length funcs) old)) offset_is ∙ ap (λ z. take (constant (instrs_view x.offset)) old ++ (map Some z ++ drop (constant (instrs_view x.offset) + length z) old)) funcs_is in
        ap (λ z. first_table z (map element_view (drop (at + 1) elements))) same ∙ sym step ∙ so_far

pub elements_size : (table : List (Option ℕ)) (elements : List Element) → All (λ segment. Fits (element_span (length table) segment)) elements → length (first_table table (map element_view elements)) ≡ length table
elements_size table [] fit = refl
elements_size table (x ∷ xs) fit =
    let P : Element → Type 0 = λ segment. Fits (element_span (length table) segment) in
    let one = filled_size table (constant (instrs_view x.offset)) x.funcs (All-head P x xs fit) in
    elements_size (filled table (element_view x)) xs (subst (λ (z : ℕ). All (λ segment. Fits (element_span z segment)) xs) (sym one) (All-tail P x xs fit)) ∙ one

pub elements_end : (elements : List Element) (at : ℕ) (now start : List (Option ℕ)) → length elements ≤ at → first_table now (map element_view (drop at elements)) ≡ first_table start (map element_view elements) → now ≡ first_table start (map element_view elements)
elements_end elements at now start past so_far = sym (ap (λ z. first_table now (map element_view z)) (drop_all at elements past)) ∙ so_far

-- ---- the globals

pub globals_more : (globals : List GlobalDef) (at : ℕ) (x : GlobalDef) (old new : List ℕ) (value : ℕ) → at < length globals → x ≡ get_or globals at x → value ≡ constant (instrs_view x.init)
    → old ≡ map (λ global. constant global.1) (map global_view (take at globals)) → new ≡ old ++ value ∷ [] → new ≡ map (λ global. constant global.1) (map global_view (take (at + 1) globals))
globals_more globals at x old new value below is value_is so_far made =
    let front = map (λ global. constant global.1) (map global_view (take at globals)) in
    let grown : map (λ global. constant global.1) (map global_view (take (at + 1) globals)) ≡ front ++ value ∷ [] =
    ap (map (λ global. constant global.1)) (map_more global_view globals at x below)
    ∙ map_push (λ global. constant global.1) (map global_view (take at globals)) (global_view (get_or globals at x))
    ∙ ap (λ z. front ++ constant (instrs_view z.init) ∷ []) (sym is) ∙ ap (λ z. front ++ z ∷ []) (sym value_is) in
    made ∙ ap (λ z. z ++ value ∷ []) so_far ∙ sym grown

abbrev HoldsValue : GlobalDef → Type 0
HoldsValue global = IsValue global.kind.value (constant (instrs_view global.init))

pub value_here : (globals : List GlobalDef) (at : ℕ) (x : GlobalDef) (value : ℕ) → at < length globals → x ≡ get_or globals at x → value ≡ constant (instrs_view x.init)
    → ((kind : ValType) → IsConstant [] (instrs_view x.init) kind → IsValue kind value) → All (λ global. IsConstant [] (instrs_view global.init) global.kind.value) globals
    → All (λ global. IsValue global.kind.value (constant (instrs_view global.init))) (take at globals) → All (λ global. IsValue global.kind.value (constant (instrs_view global.init))) (take (at + 1) globals)
value_here globals at x value below is value_is typed constants so_far =
    let one : IsConstant [] (instrs_view x.init) x.kind.value = subst (λ (z : GlobalDef). IsConstant [] (instrs_view z.init) z.kind.value) (sym is) (constants at x below) in
    let here : HoldsValue x = subst (λ (z : ℕ). IsValue x.kind.value z) value_is (typed x.kind.value one) in
    All-more HoldsValue globals at x below so_far (subst HoldsValue is here)
