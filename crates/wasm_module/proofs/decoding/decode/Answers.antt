use Rattle.std.proofs.Common.{◌≡◌, map, sym, ◌∙◌, subst, arith, List}
use Rattle.std.proofs.lemmas.Result.{err_from_is_err_and, IfOk-weaker, MatchResult-weaker}
use Rattle.wasm_values.specs.Syntax.{Ops}
use Rattle.wasm_module.specs.Sections.{module_view, AreSections, Section, Spells, Syntax}
use Rattle.wasm_module.specs.Limits.{WithinBytes, IsTooLarge, IsWithin}
use Rattle.wasm_module.specs.inner.Parts.{section_view}
use Rattle.wasm_module.specs.declared.module.DecodeFault.{DecodeFault}
use Rattle.wasm_module.specs.declared.module.DecodeFault.TheVariants as decode
use Rattle.wasm_module.specs.declared.module.Limit.{Limit}
use Rattle.wasm_module.specs.declared.module.Module.{Module}
use Rattle.wasm_module.specs.declared.outline.Section.{Section as Found}
use Rattle.wasm_module.proofs.Lifts.{limited_are}
use Rattle.wasm_module.proofs.OnceModule.{module_once}
use Rattle.wasm_module.proofs.Refused.{fault_is, sections_none, too_large_is, limited_spells, limit_same, fault_memory, passes_not, complete_from}
use Rattle.wasm_module.proofs.decoding.decode.Goals as goal

pub returns-in_err-list-clause-malformed : goal.returns-in_err-list-clause-malformed
returns-in_err-list-clause-malformed c = let p = err_from_is_err_and c.from_residual.result c.from_residual.ensures.1 in rw p.1 (λ is. (omega arith, λ m (other, are, of). c.in_err-list.ensures.malformed (fault_is _ _ p.2 is) other are))

pub within_limits-requires : goal.within_limits-requires
within_limits-requires c = (limited_are (map section_view c.as_slice-sections.result.now) (module_view c.in-Ok.module) c.in-Ok.ensures.found).1

pub returns-in-Ok-clause-too_large : goal.returns-in-Ok-clause-too_large
returns-in-Ok-clause-too_large c =
    let small : WithinBytes c.args.bytes.now = omega arith in
    let P : List Found → Type 0 = λ z. AreSections c.args.bytes.now (map section_view z) in
    let Q : Limit → Type 0 = λ z. IsTooLarge c.args.bytes.now z in
    let R : DecodeFault → Type 0 = λ e. (limit : Limit) → e ≡ decode.TooLarge limit → IsTooLarge c.args.bytes.now limit in
    let are = subst P (sym c.as_slice-sections.ensures.value) c.in_ok-list.ensures.found in
    let spelled = limited_spells c.args.bytes.now (map section_view c.as_slice-sections.result.now) (module_view c.in-Ok.module) are c.in-Ok.ensures.found in
    MatchResult-weaker c.within_limits.result {Q' = R} c.within_limits.ensures.too_large (λ found t. t) (λ e (passed, is, p). λ limit f. subst Q (limit_same passed limit (sym is ∙ f)) (too_large_is c.args.bytes.now passed (module_view c.in-Ok.module) small spelled p))

pub returns-in-Ok-clause-malformed : goal.returns-in-Ok-clause-malformed
returns-in-Ok-clause-malformed c =
    let R : DecodeFault → Type 0 = λ e. e ≡ decode.Malformed → WithinBytes c.args.bytes.now × ((m : Syntax Ops) → Spells c.args.bytes.now m → ⊥) in
    MatchResult-weaker c.within_limits.result {Q' = R} c.within_limits.ensures.too_large (λ found t. t) (λ e (passed, is, p). λ f. absurd (cc))

pub returns-in-Ok-clause-within : goal.returns-in-Ok-clause-within
returns-in-Ok-clause-within c =
    let small : WithinBytes c.args.bytes.now = omega arith in
    let R : Module → Type 0 = λ found. WithinBytes c.args.bytes.now × IsWithin (module_view found) in
    IfOk-weaker c.within_limits.result _ R (λ found within. (small, within)) c.within_limits.ensures.within

pub returns-in-Ok-clause-found : goal.returns-in-Ok-clause-found
returns-in-Ok-clause-found c =
    let P : List Found → Type 0 = λ z. AreSections c.args.bytes.now (map section_view z) in
    let R : Module → Type 0 = λ found. Spells c.args.bytes.now (module_view found) in
    let are = subst P (sym c.as_slice-sections.ensures.value) c.in_ok-list.ensures.found in
    let spelled = limited_spells c.args.bytes.now (map section_view c.as_slice-sections.result.now) (module_view c.in-Ok.module) are c.in-Ok.ensures.found in
    IfOk-weaker c.within_limits.result _ R (λ found same. subst R (sym same) spelled) c.within_limits.ensures.same

pub returns-in-Err-Malformed-clause-malformed : goal.returns-in-Err-Malformed-clause-malformed
returns-in-Err-Malformed-clause-malformed c = λ is.
    let P : List Found → Type 0 = λ z. (other : List Section) → AreSections c.args.bytes.now other → other ≡ map section_view z in
    let only = subst P (sym c.as_slice-sections.ensures.value) c.in_ok-list.ensures.only in
    (omega arith, sections_none c.args.bytes.now (map section_view c.as_slice-sections.result.now) only (c.refusal.ensures.malformed is))

pub returns-in-Err-Malformed-clause-too_large : goal.returns-in-Err-Malformed-clause-too_large
returns-in-Err-Malformed-clause-too_large c = λ limit e.
    let small : WithinBytes c.args.bytes.now = omega arith in
    let P : List Found → Type 0 = λ z. AreSections c.args.bytes.now (map section_view z) in
    let are = subst P (sym c.as_slice-sections.ensures.value) c.in_ok-list.ensures.found in
    let past = c.refusal.ensures.too_large limit e in
    too_large_is c.args.bytes.now limit past.0 small ((map section_view c.as_slice-sections.result.now), are, past.1) past.2

pub returns-then-bytes-gt-MOST_BYTES-clause-once : goal.returns-then-bytes-gt-MOST_BYTES-clause-once
returns-then-bytes-gt-MOST_BYTES-clause-once c = module_once c.args.bytes.now

pub returns-in_err-list-clause-once : goal.returns-in_err-list-clause-once
returns-in_err-list-clause-once c = module_once c.args.bytes.now

pub returns-in-Ok-clause-once : goal.returns-in-Ok-clause-once
returns-in-Ok-clause-once c = module_once c.args.bytes.now

pub returns-in-Err-Malformed-clause-once : goal.returns-in-Err-Malformed-clause-once
returns-in-Err-Malformed-clause-once c = module_once c.args.bytes.now

pub returns-clause-once : goal.returns-clause-once
returns-clause-once c = module_once c.args.bytes.now

pub returns-then-bytes-gt-MOST_BYTES-clause-complete : goal.returns-then-bytes-gt-MOST_BYTES-clause-complete
returns-then-bytes-gt-MOST_BYTES-clause-complete c = λ m s w i. absurd (omega arith)

pub returns-in_err-list-clause-complete : goal.returns-in_err-list-clause-complete
returns-in_err-list-clause-complete c = λ m (other, are, of) w i. let p = err_from_is_err_and c.from_residual.result c.from_residual.ensures.1 in rw p.1 (fault_memory _ _ p.2 (λ is. c.in_err-list.ensures.malformed is other are))

pub returns-in-Ok-clause-complete : goal.returns-in-Ok-clause-complete
returns-in-Ok-clause-complete c = λ m s w i.
    let P : List Found → Type 0 = λ z. AreSections c.args.bytes.now (map section_view z) in
    let R : DecodeFault → Type 0 = λ e. e ≡ decode.Memory in
    let are = subst P (sym c.as_slice-sections.ensures.value) c.in_ok-list.ensures.found in
    let same : m ≡ module_view c.in-Ok.module = module_once c.args.bytes.now m (module_view c.in-Ok.module) s (limited_spells c.args.bytes.now (map section_view c.as_slice-sections.result.now) (module_view c.in-Ok.module) are c.in-Ok.ensures.found) in
    MatchResult-weaker c.within_limits.result {Q' = R} c.within_limits.ensures.too_large (λ found t. t) (λ e (passed, is, p). absurd (passes_not passed (module_view c.in-Ok.module) p (subst IsWithin same i)))

pub returns-in-Err-Malformed-clause-complete : goal.returns-in-Err-Malformed-clause-complete
returns-in-Err-Malformed-clause-complete c = λ m s w i. complete_from c.args.bytes.now c.refusal.result m (returns-in-Err-Malformed-clause-malformed c) (returns-in-Err-Malformed-clause-too_large c) s w i
