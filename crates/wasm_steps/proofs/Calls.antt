-- A call goes on in one state, or traps in one way, and never both.
use Rattle.std.proofs.Common.{◌≡◌, ℕ, refl, ap, arith}
use Rattle.wasm_values.specs.Syntax.{Ops}
use Rattle.wasm_steps.specs.Program.{Function, Program, Store}
use Rattle.wasm_steps.specs.Steps.{Meaning, State, Calls, calls_own, calls_host, CallFails, fails_depth, fails_room, fails_answer, Finds, FindsNone, finds_end, finds_empty, finds_other}
use Rattle.wasm_steps.specs.Laws.{IsFunction}
use Rattle.wasm_steps.specs.declared.outcome.Trap.{Trap}

-- What an instruction comes to: the state behind it, or a trap.
pub data Result (S : Type 0) : Type 0 where
  goes : State S → Result S
  traps : Trap → Result S

-- What a call comes to.
pub data CallsTo {S : Type 0} (H : Meaning S) : Function → Ops → State S → Result S → Type 0 where
  call_goes : {found : Function} {rest : Ops} {state after : State S} → Calls H found rest state after → CallsTo H found rest state (goes after)
  call_traps : {found : Function} {rest : Ops} {state : State S} {trap : Trap} → CallFails found state trap → CallsTo H found rest state (traps trap)

-- Two states behind a call are equal, where the host answers it in one way.
calls_one : {S : Type 0} {H : Meaning S} → IsFunction H → {found : Function} {rest : Ops} {x y z : State S} → Calls H found rest x y → Calls H found rest x z → y ≡ z
calls_one k (calls_own l d) (calls_own m e) = refl
calls_one k (calls_host l a) (calls_host m b) = let same = k _ _ _ _ _ _ _ _ _ _ a b in cc

-- Two traps of a call are equal.
call_fails_one : {S : Type 0} {found : Function} {x : State S} {s t : Trap} → CallFails found x s → CallFails found x t → s ≡ t
call_fails_one (fails_depth l) (fails_depth m) = refl
call_fails_one (fails_depth l) (fails_room m e) = absurd (omega arith)
call_fails_one (fails_room l d) (fails_depth m) = absurd (omega arith)
call_fails_one (fails_room l d) (fails_room m e) = refl
call_fails_one (fails_answer l) (fails_answer m) = refl

-- A call that goes on does not trap.
calls_not_fail : {S : Type 0} {H : Meaning S} {found : Function} {rest : Ops} {x y : State S} {t : Trap} → Calls H found rest x y → CallFails found x t → ⊥
calls_not_fail (calls_own l d) (fails_depth m) = omega arith
calls_not_fail (calls_own l d) (fails_room m e) = omega arith
calls_not_fail (calls_host l a) (fails_answer m) = omega arith

-- So a call comes to one thing.
pub calls_to_one : {S : Type 0} {H : Meaning S} → IsFunction H → {found : Function} {rest : Ops} {x : State S} {r q : Result S} → CallsTo H found rest x r → CallsTo H found rest x q → r ≡ q
calls_to_one k (call_goes a) (call_goes b) = ap goes (calls_one k a b)
calls_to_one k (call_goes a) (call_traps b) = absurd (calls_not_fail a b)
calls_to_one k (call_traps a) (call_goes b) = absurd (calls_not_fail b a)
calls_to_one k (call_traps a) (call_traps b) = ap traps (call_fails_one a b)

-- Where an entry of the table has no function to call there is one trap.
pub finds_none_one : {program : Program} {store : Store} {index i j : ℕ} {s t : Trap} → i ≡ j → FindsNone program store index i s → FindsNone program store index j t → s ≡ t
finds_none_one k (finds_end e) (finds_end f) = refl
finds_none_one k (finds_end e) (finds_empty f) = absurd (cc)
finds_none_one k (finds_end e) (finds_other f g n) = absurd (cc)
finds_none_one k (finds_empty e) (finds_end f) = absurd (cc)
finds_none_one k (finds_empty e) (finds_empty f) = refl
finds_none_one k (finds_empty e) (finds_other f g n) = absurd (cc)
finds_none_one k (finds_other e h n) (finds_end f) = absurd (cc)
finds_none_one k (finds_other e h n) (finds_empty f) = absurd (cc)
finds_none_one k (finds_other e h n) (finds_other f g m) = refl

-- And it has one only where there is no trap.
pub finds_not_none : {program : Program} {store : Store} {index i j : ℕ} {f : Function} {t : Trap} → i ≡ j → Finds program store index i f → FindsNone program store index j t → ⊥
finds_not_none k a (finds_end e) = cc
finds_not_none k a (finds_empty e) = cc
finds_not_none k a (finds_other {func = m} {found = g} e h n) =
    let same : a.func ≡ m = cc in
    let known = a.known in
    let typed = a.typed in
    n (cc)
