-- Two runs from one state come to rest in the same state.
use Rattle.std.proofs.Common.{◌≡◌, ℕ, ◌+◌, ◌≤◌, refl, sym, subst, arith, ◌⊎◌, inl, inr}
use Rattle.wasm_steps.specs.Program.{Program}
use Rattle.wasm_steps.specs.Steps.{Meaning, State, Step}
use Rattle.wasm_steps.specs.Runs.{Steps, no_step, one_more, IsAtInstruction}
use Rattle.wasm_steps.specs.Laws.{IsFunction}
use Rattle.wasm_steps.proofs.Steps.{step_one, instruction_costs}

-- Steps with the first one in front.
pub data Onward (program : Program) {S : Type 0} (H : Meaning S) : State S → ℕ → State S → Type 0 where
  no_further : {state : State S} → Onward program H state 0 state
  one_first : {from to last : State S} {cost used : ℕ} → Step program H from cost to → Onward program H to used last → Onward program H from (cost + used) last

-- With so much fuel a run comes to this state, and from there no further.
pub record Rests (program : Program) {S : Type 0} (H : Meaning S) (from : State S) (fuel cost : ℕ) (to : State S) : Type 0 where
  pub within : cost ≤ fuel
  pub runs : Onward program H from cost to
  pub rests : (more : ℕ) (last : State S) → Onward program H to more last → cost + more ≤ fuel → (more ≡ 0) × (to ≡ last)

module _ {program : Program} {S : Type 0} {H : Meaning S} where
  -- The same steps at an equal cost.
  costing : {m n : ℕ} {x y : State S} → m ≡ n → Onward program H x m y → Onward program H x n y
  costing {x = x} {y = y} e g = subst (λ (z : ℕ). Onward program H x z y) e g

  -- One more step behind them.
  further : {m n : ℕ} {x y z : State S} → Onward program H x m y → Step program H y n z → Onward program H x (m + n) z
  further no_further s = costing (omega arith) (one_first s no_further)
  further (one_first p g) s = costing (omega arith) (one_first p (further g s))

  -- Any steps can be taken from the front.
  pub from_front : {m : ℕ} {x y : State S} → Steps program H x m y → Onward program H x m y
  from_front no_step = no_further
  from_front (one_more g s) = further (from_front g) s

  -- Of two runs from one state one goes on where the other ended.
  meets : IsFunction H → {m n : ℕ} {x y z : State S} → Onward program H x m y → Onward program H x n z
      → ((k : ℕ) × Onward program H y k z × (m + k ≡ n)) ⊎ ((k : ℕ) × Onward program H z k y × (n + k ≡ m))
  meets k no_further h = inl (_, h, omega arith)
  meets k (one_first p g) no_further = inr (_, one_first p g, omega arith)
  meets k (one_first {to = y} {cost = c} p g) (one_first {last = z} {cost = d} {used = n} q h) =
      let same = step_one k p q in
      let cost = same.0 in
      elim (meets k g (subst (λ (w : State S). Onward program H w n z) (sym same.1) h)) [ inl (i, r, e) ↦ inl (i, r, omega arith) | inr (i, r, e) ↦ inr (i, r, omega arith) ]

  -- There is one such state.
  pub rests_one : IsFunction H → {m n fuel : ℕ} {x y z : State S} → Rests program H x fuel m y → Rests program H x fuel n z → (m ≡ n) × (y ≡ z)
  rests_one k {m} {n} {fuel} {x} {y} {z} a b = go (meets k a.runs b.runs)
    where
      go : ((i : ℕ) × Onward program H y i z × (m + i ≡ n)) ⊎ ((i : ℕ) × Onward program H z i y × (n + i ≡ m)) → (m ≡ n) × (y ≡ z)
      go (inl (i, g, e)) = let w = b.within in let same = a.rests i z g (omega arith) in let none = same.0 in (omega arith, same.1)
      go (inr (i, g, e)) = let w = a.within in let same = b.rests i y g (omega arith) in let none = same.0 in (omega arith, sym same.1)

  -- From a state that has no step a run goes no further.
  pub halted : (x : State S) → ((c : ℕ) (y : State S) → Step program H x c y → ⊥) → (k : ℕ) (z : State S) → Onward program H x k z → (k ≡ 0) × (x ≡ z)
  halted x h k z no_further = (refl, refl)
  halted x h k z (one_first s g) = absurd (h _ _ s)

  -- Nor does it from one at an instruction, without fuel.
  pub starved : (x : State S) → IsAtInstruction x.thread → (fuel k : ℕ) (z : State S) → Onward program H x k z → fuel + k ≤ fuel → (k ≡ 0) × (x ≡ z)
  starved x a fuel k z no_further l = (refl, refl)
  starved x a fuel k z (one_first s g) l = let one = instruction_costs a s in absurd (omega arith)
