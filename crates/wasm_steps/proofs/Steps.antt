-- A state has one step or one trap at most, and neither where nothing is left to run.
use Rattle.std.proofs.Common.{◌≡◌, ℕ, refl, ap, ◌⊎◌, inl, inr}
use Rattle.wasm_values.specs.Syntax.{Op, Ops, next}
use Rattle.wasm_steps.specs.Program.{Program}
use Rattle.wasm_steps.specs.Threads.{Thread, Leaves}
use Rattle.wasm_steps.specs.Steps.{Meaning, State, Step, step_leaves, step_plain, step_block, step_loop, step_then, step_else, step_br, step_br_if, step_no_br_if, step_br_table, step_return, step_call, step_call_indirect, Stops, stops_plain, stops_full, stops_call, stops_unfound, stops_call_indirect}
use Rattle.wasm_steps.specs.Runs.{IsOver, IsAtInstruction}
use Rattle.wasm_steps.specs.Laws.{IsFunction}
use Rattle.wasm_steps.specs.declared.outcome.Trap.{Trap}
use Rattle.wasm_steps.proofs.Threads.{leaves_one, leaves_end, leaves_level}
use Rattle.wasm_steps.proofs.Calls.{Result, goes, traps, call_goes, call_traps}
use Rattle.wasm_steps.proofs.Acts.{Plainly, plainly_fits, plainly_full, plainly_fails, Controls, controls_block, controls_loop, controls_then, controls_else, controls_br, controls_br_if, controls_no_br_if, controls_br_table, controls_return, controls_call, controls_found, controls_unfound, Turns, turns_one}

-- A step leaves a block or a frame and costs nothing, or is one of an instruction and costs 1.
data Moves (program : Program) {S : Type 0} (H : Meaning S) (state : State S) : ℕ → State S → Type 0 where
  moves_out : {thread : Thread} → Leaves state.thread thread → Moves program H state 0 (record state { thread = thread })
  moves_on : {after : State S} → Turns program H state (goes after) → Moves program H state 1 after

module _ {program : Program} {S : Type 0} {H : Meaning S} {x : State S} where
  -- What its instruction comes to, the state comes to.
  turn : {op : Op} {rest : Ops} {r : Result S} → x.thread.code ≡ next op rest → Plainly op rest x r ⊎ Controls program H op rest x r → Turns program H x r
  turn e a = record { op = _; rest = _; code = e; acts = a }

  -- Each step is one of these.
  moves : {cost : ℕ} {y : State S} → Step program H x cost y → Moves program H x cost y
  moves (step_leaves l) = moves_out l
  moves (step_plain e d l) = moves_on (turn e (inl (plainly_fits d l)))
  moves (step_block e) = moves_on (turn e (inr controls_block))
  moves (step_loop e) = moves_on (turn e (inr controls_loop))
  moves (step_then e s n) = moves_on (turn e (inr (controls_then s n)))
  moves (step_else e s) = moves_on (turn e (inr (controls_else s)))
  moves (step_br e b) = moves_on (turn e (inr (controls_br b)))
  moves (step_br_if e s n b) = moves_on (turn e (inr (controls_br_if s n b)))
  moves (step_no_br_if e s) = moves_on (turn e (inr (controls_no_br_if s)))
  moves (step_br_table e s t b) = moves_on (turn e (inr (controls_br_table s t b)))
  moves (step_return e r) = moves_on (turn e (inr (controls_return r)))
  moves (step_call e f c) = moves_on (turn e (inr (controls_call f (call_goes c))))
  moves (step_call_indirect e s f c) = moves_on (turn e (inr (controls_found s f (call_goes c))))

  -- Each trap comes of an instruction.
  stops : {trap : Trap} → Stops program x trap → Turns program H x (traps trap)
  stops (stops_plain e f) = turn e (inl (plainly_fails f))
  stops (stops_full e d l) = turn e (inl (plainly_full d l))
  stops (stops_call e f c) = turn e (inr (controls_call f (call_traps c)))
  stops (stops_unfound e s f) = turn e (inr (controls_unfound s f))
  stops (stops_call_indirect e s f c) = turn e (inr (controls_found s f (call_traps c)))

  -- A state that is at an instruction does not leave.
  not_both : {y : Thread} {r : Result S} → Leaves x.thread y → Turns program H x r → ⊥
  not_both l t = let end = leaves_end l in let code = t.code in cc

  -- There is one such step.
  moves_one : IsFunction H → {m n : ℕ} {y z : State S} → Moves program H x m y → Moves program H x n z → (m ≡ n) × (y ≡ z)
  moves_one k (moves_out l) (moves_out m) = (refl, ap (λ (z : Thread). record x { thread = z }) (leaves_one l m))
  moves_one k (moves_out l) (moves_on t) = absurd (not_both l t)
  moves_one k (moves_on t) (moves_out l) = absurd (not_both l t)
  moves_one k (moves_on s) (moves_on t) = let same = turns_one k s t in (refl, cc)

  -- Two steps from a state cost the same, and end in the same state.
  pub step_one : IsFunction H → {m n : ℕ} {y z : State S} → Step program H x m y → Step program H x n z → (m ≡ n) × (y ≡ z)
  step_one k p q = moves_one k (moves p) (moves q)

  -- Two traps of a state are the same.
  pub stops_one : IsFunction H → {s t : Trap} → Stops program x s → Stops program x t → s ≡ t
  stops_one k p q = let same = turns_one k (stops p) (stops q) in cc

  -- And none where there is a trap.
  moves_not_stops : IsFunction H → {cost : ℕ} {y : State S} {t : Trap} → Moves program H x cost y → Turns program H x (traps t) → ⊥
  moves_not_stops k (moves_out l) t = not_both l t
  moves_not_stops k (moves_on s) t = let same = turns_one k s t in cc

  -- So a state that traps has no step.
  pub stops_stays : IsFunction H → {cost : ℕ} {y : State S} {t : Trap} → Stops program x t → Step program H x cost y → ⊥
  stops_stays k p s = moves_not_stops k (moves s) (stops p)

  -- Nor where nothing is left to run.
  moves_not_over : {cost : ℕ} {y : State S} → Moves program H x cost y → IsOver x.thread → ⊥
  moves_not_over (moves_out l) o = leaves_level l o.1
  moves_not_over (moves_on t) o = let code = t.code in let end = o.0 in cc

  -- So a state that is over has no step.
  pub over_stays : {cost : ℕ} {y : State S} → IsOver x.thread → Step program H x cost y → ⊥
  over_stays o s = moves_not_over (moves s) o

  -- At an instruction no block or frame is left, so such a step costs 1.
  moves_cost : {cost : ℕ} {y : State S} → Moves program H x cost y → IsAtInstruction x.thread → cost ≡ 1
  moves_cost (moves_out l) (op, rest, e) = let end = leaves_end l in absurd (cc)
  moves_cost (moves_on t) a = refl

  -- So a step at an instruction costs 1.
  pub instruction_costs : {cost : ℕ} {y : State S} → IsAtInstruction x.thread → Step program H x cost y → cost ≡ 1
  instruction_costs a s = moves_cost (moves s) a

-- A state that traps is at an instruction.
pub stops_at : {program : Program} {S : Type 0} {x : State S} {t : Trap} → Stops program x t → IsAtInstruction x.thread
stops_at (stops_plain e f) = (_, _, e)
stops_at (stops_full e d l) = (_, _, e)
stops_at (stops_call e f c) = (_, _, e)
stops_at (stops_unfound e s f) = (_, _, e)
stops_at (stops_call_indirect e s f c) = (_, _, e)
