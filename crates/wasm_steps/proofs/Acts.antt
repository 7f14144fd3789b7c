-- An instruction comes to one thing, a state or a trap.
use Rattle.std.proofs.Common.{◌≡◌, ◌≢◌, ℕ, ◌<◌, ◌≤◌, List, ◌∷◌, Option, Some, slice_get, refl, ap, sym, ◌∙◌, subst, arith, ◌⊎◌, inl, inr}
use Rattle.wasm_values.specs.Syntax.{Op, Ops, next, block, loop, if_else, br, br_if, br_table, return, call, call_indirect}
use Rattle.wasm_values.specs.declared.types.ValType.{ValType}
use Rattle.wasm_steps.specs.Program.{Function, Program, most_values}
use Rattle.wasm_steps.specs.Plain.{Data, Does, Fails}
use Rattle.wasm_steps.specs.Threads.{Thread, arity, size, Branches, Returns}
use Rattle.wasm_steps.specs.Steps.{Meaning, State, data_of, plainly, entered, target_of, Finds, FindsNone}
use Rattle.wasm_steps.specs.Laws.{IsFunction}
use Rattle.wasm_steps.specs.declared.outcome.Trap.{Trap}
use Rattle.wasm_steps.specs.declared.outcome.Trap.TheVariants.{StackFull}
use Rattle.wasm_steps.proofs.Plain.{does_one, fails_one, fails_not_do, IsControl, control_does_not, control_does_not_fail}
use Rattle.wasm_steps.proofs.Threads.{branches_one, branches_same, returns_one}
use Rattle.wasm_steps.proofs.Calls.{Result, goes, traps, CallsTo, calls_to_one, finds_none_one, finds_not_none}

-- What a plain instruction comes to, with what is left to run behind it.
pub data Plainly {S : Type 0} : Op → Ops → State S → Result S → Type 0 where
  plainly_fits : {state : State S} {op : Op} {rest : Ops} {held : Data}
      → Does op (data_of state) held → size (plainly state rest held).thread ≤ most_values → Plainly op rest state (goes (plainly state rest held))
  plainly_full : {state : State S} {op : Op} {rest : Ops} {held : Data}
      → Does op (data_of state) held → most_values < size (plainly state rest held).thread → Plainly op rest state (traps StackFull)
  plainly_fails : {state : State S} {op : Op} {rest : Ops} {trap : Trap} → Fails op (data_of state) trap → Plainly op rest state (traps trap)

-- It comes to one thing.
plainly_one : {S : Type 0} {op : Op} {rest : Ops} {x : State S} {r q : Result S} → Plainly op rest x r → Plainly op rest x q → r ≡ q
plainly_one {rest = rest} {x = x} (plainly_fits d l) (plainly_fits e m) = ap (λ (z : Data). goes (plainly x rest z)) (does_one d e)
plainly_one {rest = rest} {x = x} (plainly_fits d l) (plainly_full e m) = let same = ap (λ (z : Data). size (plainly x rest z).thread) (does_one d e) in absurd (omega arith)
plainly_one (plainly_fits d l) (plainly_fails f) = absurd (fails_not_do f d)
plainly_one {rest = rest} {x = x} (plainly_full d l) (plainly_fits e m) = let same = ap (λ (z : Data). size (plainly x rest z).thread) (does_one d e) in absurd (omega arith)
plainly_one (plainly_full d l) (plainly_full e m) = refl
plainly_one (plainly_full d l) (plainly_fails f) = absurd (fails_not_do f d)
plainly_one (plainly_fails f) (plainly_fits d l) = absurd (fails_not_do f d)
plainly_one (plainly_fails f) (plainly_full d l) = absurd (fails_not_do f d)
plainly_one (plainly_fails f) (plainly_fails g) = ap traps (fails_one f g)

-- What one that branches or calls comes to.
pub data Controls (program : Program) {S : Type 0} (H : Meaning S) : Op → Ops → State S → Result S → Type 0 where
  controls_block : {state : State S} {result : Option ValType} {body rest : Ops}
      → Controls program H (block result body) rest state (goes (record state { thread = entered (arity result) rest body state.thread.operands state.thread rest }))
  controls_loop : {state : State S} {result : Option ValType} {body rest : Ops}
      → Controls program H (loop result body) rest state (goes (record state { thread = entered 0 state.thread.code body state.thread.operands state.thread rest }))
  controls_then : {state : State S} {result : Option ValType} {first second rest : Ops} {a : ℕ} {below : List ℕ} → state.thread.operands ≡ a ∷ below → a ≢ 0
      → Controls program H (if_else result first second) rest state (goes (record state { thread = entered (arity result) rest first below state.thread rest }))
  controls_else : {state : State S} {result : Option ValType} {first second rest : Ops} {below : List ℕ} → state.thread.operands ≡ 0 ∷ below
      → Controls program H (if_else result first second) rest state (goes (record state { thread = entered (arity result) rest second below state.thread rest }))
  controls_br : {state : State S} {target : ℕ} {rest : Ops} {thread : Thread} → Branches target state.thread thread
      → Controls program H (br target) rest state (goes (record state { thread = thread }))
  controls_br_if : {state : State S} {target a : ℕ} {rest : Ops} {below : List ℕ} {thread : Thread} → state.thread.operands ≡ a ∷ below → a ≢ 0
      → Branches target (record state.thread { operands = below }) thread
      → Controls program H (br_if target) rest state (goes (record state { thread = thread }))
  controls_no_br_if : {state : State S} {target : ℕ} {rest : Ops} {below : List ℕ} → state.thread.operands ≡ 0 ∷ below
      → Controls program H (br_if target) rest state (goes (record state { thread = record state.thread { code = rest; operands = below } }))
  controls_br_table : {state : State S} {several : List ℕ} {last target a : ℕ} {rest : Ops} {below : List ℕ} {thread : Thread} → state.thread.operands ≡ a ∷ below
      → target_of several last a ≡ target → Branches target (record state.thread { operands = below }) thread
      → Controls program H (br_table several last) rest state (goes (record state { thread = thread }))
  controls_return : {state : State S} {rest : Ops} {thread : Thread} → Returns state.thread thread
      → Controls program H return rest state (goes (record state { thread = thread }))
  controls_call : {state : State S} {func : ℕ} {rest : Ops} {found : Function} {result : Result S} → slice_get program.functions func ≡ Some found
      → CallsTo H found rest state result → Controls program H (call func) rest state result
  controls_found : {state : State S} {index entry : ℕ} {rest : Ops} {below : List ℕ} {found : Function} {result : Result S} → state.thread.operands ≡ entry ∷ below
      → Finds program state.store index entry found → CallsTo H found rest (record state { thread = record state.thread { operands = below } }) result
      → Controls program H (call_indirect index) rest state result
  controls_unfound : {state : State S} {index entry : ℕ} {rest : Ops} {below : List ℕ} {trap : Trap} → state.thread.operands ≡ entry ∷ below
      → FindsNone program state.store index entry trap → Controls program H (call_indirect index) rest state (traps trap)

-- The state with these operands.
abbrev popped : {S : Type 0} → State S → List ℕ → State S
popped state below = record state { thread = record state.thread { operands = below } }

-- A step to the state with another thread.
abbrev moved : {S : Type 0} → State S → Thread → Result S
moved state thread = goes (record state { thread = thread })

-- A call of one function on the same operands comes to one thing.
call_same : {S : Type 0} {H : Meaning S} → IsFunction H → {f g : Function} {a b : List ℕ} {rest : Ops} (x : State S) {r q : Result S} → f ≡ g → a ≡ b
    → CallsTo H f rest (popped x a) r → CallsTo H g rest (popped x b) q → r ≡ q
call_same {H = H} k {rest = rest} x {r = r} m n c d = calls_to_one k (subst (λ (z : Function × List ℕ). CallsTo H z.0 rest (popped x z.1) r) (λ i. (m i, n i)) c) d

module _ {program : Program} {S : Type 0} {H : Meaning S} {rest : Ops} {x : State S} where
  -- An instruction that branches or calls comes to one thing.
  controls_one : IsFunction H → {op : Op} {r q : Result S} → Controls program H op rest x r → Controls program H op rest x q → r ≡ q
  controls_one k controls_block controls_block = refl
  controls_one k controls_loop controls_loop = refl
  controls_one k (controls_then e n) (controls_then f m) = cc
  controls_one k (controls_then e n) (controls_else f) = absurd (n (cc))
  controls_one k (controls_else e) (controls_then f m) = absurd (m (cc))
  controls_one k (controls_else e) (controls_else f) = cc
  controls_one k (controls_br p) (controls_br q) = ap (moved x) (branches_one p q)
  controls_one k (controls_br_if e n p) (controls_br_if f m q) = ap (moved x) (branches_same x.thread refl (cc) p q)
  controls_one k (controls_br_if e n p) (controls_no_br_if f) = absurd (n (cc))
  controls_one k (controls_no_br_if e) (controls_br_if f m q) = absurd (m (cc))
  controls_one k (controls_no_br_if e) (controls_no_br_if f) = cc
  controls_one k (controls_br_table {several = several} {last = last} {target = i} {a = a} e s p) (controls_br_table {target = j} {a = b} f t q) =
      let same : a ≡ b = cc in
      let targets : i ≡ j = sym s ∙ ap (target_of several last) same ∙ t in
      ap (moved x) (branches_same x.thread targets (cc) p q)
  controls_one k (controls_return p) (controls_return q) = ap (moved x) (returns_one p q)
  controls_one k (controls_call {found = f} e c) (controls_call {found = g} h d) = let same : f ≡ g = cc in call_same k x same refl c d
  controls_one k (controls_found {found = f} e s c) (controls_found {found = g} h t d) = let same : f ≡ g = cc in call_same k x same (cc) c d
  controls_one k (controls_found e s c) (controls_unfound f t) = absurd (finds_not_none (cc) s t)
  controls_one k (controls_unfound e s) (controls_found f t d) = absurd (finds_not_none (cc) t s)
  controls_one k (controls_unfound e s) (controls_unfound f t) = ap traps (finds_none_one (cc) s t)

  -- No instruction is both.
  control_is : {op : Op} {r : Result S} → Controls program H op rest x r → IsControl op
  control_is controls_block = tt
  control_is _ = tt

  not_plain : {op : Op} {r q : Result S} → Controls program H op rest x r → Plainly op rest x q → ⊥
  not_plain c (plainly_fits d l) = control_does_not d (control_is c)
  not_plain c (plainly_full d l) = control_does_not d (control_is c)
  not_plain c (plainly_fails f) = control_does_not_fail f (control_is c)

  -- So any instruction comes to one thing.
  acts_one : IsFunction H → {op : Op} {r q : Result S} → Plainly op rest x r ⊎ Controls program H op rest x r → Plainly op rest x q ⊎ Controls program H op rest x q → r ≡ q
  acts_one k (inl a) (inl b) = plainly_one a b
  acts_one k (inl a) (inr b) = absurd (not_plain b a)
  acts_one k (inr a) (inl b) = absurd (not_plain a b)
  acts_one k (inr a) (inr b) = controls_one k a b

-- What a state comes to that is at an instruction.
pub record Turns (program : Program) {S : Type 0} (H : Meaning S) (state : State S) (result : Result S) : Type 0 where
  pub op : Op
  pub rest : Ops
  pub code : state.thread.code ≡ next op rest
  pub acts : Plainly op rest state result ⊎ Controls program H op rest state result

-- That is one thing too.
pub turns_one : {program : Program} {S : Type 0} {H : Meaning S} → IsFunction H → {x : State S} {r q : Result S} → Turns program H x r → Turns program H x q → r ≡ q
turns_one {program = program} {H = H} k {x = x} {q = q} a b =
    let code = sym b.code ∙ a.code in
    let op : b.op ≡ a.op = cc in
    let rest : b.rest ≡ a.rest = cc in
    acts_one k a.acts (subst (λ (z : Op × Ops). Plainly z.0 z.1 x q ⊎ Controls program H z.0 z.1 x q) (λ i. (op i, rest i)) b.acts)
