-- Two ends of a run are the same.
use Rattle.std.proofs.Common.{◌≡◌, ℕ, ◌+◌, ◌-◌, ◌≤◌, Option, None, refl, ap, sym, ◌∙◌, subst, arith}
use Rattle.wasm_steps.specs.Program.{Program, Store}
use Rattle.wasm_steps.specs.Threads.{Thread}
use Rattle.wasm_steps.specs.Steps.{Meaning, State, Stops}
use Rattle.wasm_steps.specs.Runs.{IsOver, IsAtInstruction, EndsFrom, IsInvoked, behind, IsStopped, Ends, ends_main, ends_in_start, ends_behind_start}
use Rattle.wasm_steps.specs.Laws.{IsFunction, HasOneEnd}
use Rattle.wasm_steps.specs.declared.outcome.Outcome.{Outcome}
use Rattle.wasm_steps.specs.declared.outcome.Outcome.TheVariants.{Finished, Trapped, Spent}
use Rattle.wasm_steps.proofs.Steps.{stops_one, stops_stays, over_stays, stops_at}
use Rattle.wasm_steps.proofs.Runs.{from_front, Rests, rests_one, halted, starved}

-- What the state says at which a run ended so, and what the run cost.
abbrev Shows : Program → {S : Type 0} → ℕ → Outcome → ℕ → State S → Type 0
Shows program fuel (Finished used) cost state = (used ≡ cost) × IsOver state.thread
Shows program fuel (Trapped used trap) cost state = (cost + 1 ≡ used) × (used ≤ fuel) × Stops program state trap
Shows program fuel (Spent used) cost state = (used ≡ cost) × (used ≡ fuel) × IsAtInstruction state.thread

-- What is over is at no instruction.
not_at : (x : Thread) → IsOver x → IsAtInstruction x → ⊥
not_at x o (op, rest, e) = let end = o.0 in cc

module _ (program : Program) {S : Type 0} (H : Meaning S) where
  -- Where a run ends it comes to rest, and its last state shows how it ended.
  ends_rest : (x : State S) (fuel : ℕ) (outcome : Outcome) (y : State S) → IsFunction H → EndsFrom program H x fuel outcome y
      → (n : ℕ) × Rests program H x fuel n y × Shows program fuel outcome n y
  ends_rest x fuel (Finished used) y k e = (used, record { within = e.0; runs = from_front e.1; rests = λ m z g l. halted y (λ c w s. over_stays e.2 s) m z g }, (refl, e.2))
  ends_rest x fuel (Trapped used trap) y k (l, n, same, g, s) = (n, record { within = omega arith; runs = from_front g; rests = λ m z h l. halted y (λ c w p. stops_stays k s p) m z h }, (same, l, s))
  ends_rest x fuel (Spent used) y k (same, g, a) = (used, record { within = omega arith; runs = from_front g; rests = λ m z h l. starved y a fuel m z h (omega arith) }, (refl, same, a))

  -- A state shows one outcome.
  shows_one : (fuel n : ℕ) (one other : Outcome) (x : State S) → IsFunction H → Shows program fuel one n x → Shows program fuel other n x → one ≡ other
  shows_one fuel n (Finished used) (Finished more) x k a b = ap Finished (a.0 ∙ sym b.0)
  shows_one fuel n (Finished used) (Trapped more t) x k a b = absurd (not_at x.thread a.1 (stops_at b.2))
  shows_one fuel n (Finished used) (Spent more) x k a b = absurd (not_at x.thread a.1 b.2)
  shows_one fuel n (Trapped used s) (Finished more) x k a b = absurd (not_at x.thread b.1 (stops_at a.2))
  shows_one fuel n (Trapped used s) (Trapped more t) x k a b = let same = stops_one {H = H} k a.2 b.2 in cc
  shows_one fuel n (Trapped used s) (Spent more) x k a b = absurd (omega arith)
  shows_one fuel n (Spent used) (Finished more) x k a b = absurd (not_at x.thread b.1 a.2)
  shows_one fuel n (Spent used) (Trapped more t) x k a b = absurd (omega arith)
  shows_one fuel n (Spent used) (Spent more) x k a b = ap Spent (a.0 ∙ sym b.0)

  -- From one state a run ends in one way.
  from_one : IsFunction H → (x : State S) (fuel : ℕ) (one other : Outcome) (y z : State S) → EndsFrom program H x fuel one y → EndsFrom program H x fuel other z → (one ≡ other) × (y ≡ z)
  from_one k x fuel one other y z a b =
      let (m, r, s) = ends_rest x fuel one y k a in
      let (n, q, t) = ends_rest x fuel other z k b in
      let same = rests_one k r q in
      (shows_one fuel m one other y k s (subst (λ (w : ℕ × State S). Shows program fuel other w.0 w.1) (λ i. (sym same.0 i, sym same.1 i)) t), same.1)

-- A function is invoked in one way.
invoked_one : {program : Program} {func : ℕ} {x y : Thread} → IsInvoked program func x → IsInvoked program func y → x ≡ y
invoked_one a b =
    let known = a.known in
    let begins = a.begins in
    cc

module _ {program : Program} {S : Type 0} {H : Meaning S} where
  -- So does one from a function that is invoked.
  invoked_ends : IsFunction H → {func : ℕ} {x y : Thread} (store : Store) (host : S) (fuel : ℕ) (one other : Outcome) {last final : State S} → IsInvoked program func x → IsInvoked program func y
      → EndsFrom program H (record { thread = x; store = store; host = host }) fuel one last → EndsFrom program H (record { thread = y; store = store; host = host }) fuel other final
      → (one ≡ other) × (last ≡ final)
  invoked_ends k {x = x} store host fuel one other {last = last} {final = final} v w a b =
      from_one program H k (record { thread = x; store = store; host = host }) fuel one other last final a
      (subst (λ (z : Thread). EndsFrom program H (record { thread = z; store = store; host = host }) fuel other final) (invoked_one w v) b)

  -- So does a run of an instance.
  ends_one : IsFunction H → {main fuel : ℕ} {start : Option ℕ} {store : Store} {host : S} {one other : Outcome} {last final : State S}
      → Ends program H main start store host fuel one last → Ends program H main start store host fuel other final → (one ≡ other) × (last ≡ final)
  ends_one k {fuel = f} {store = s} {host = h} {one = o} {other = p} (ends_main v a) (ends_main w b) = invoked_ends k s h f o p v w a b
  ends_one k {fuel = f} {store = s} {host = h} {one = o} {other = p} (ends_in_start v a u) (ends_in_start w b t) = invoked_ends k s h f o p v w a b
  ends_one k {fuel = f} {store = s} {host = h} {one = o} (ends_in_start v a u) (ends_behind_start {used = n} w b d) = absurd (subst IsStopped (invoked_ends k s h f o (Finished n) v w a b).0 u)
  ends_one k {fuel = f} {store = s} {host = h} {other = p} (ends_behind_start {used = m} v a c) (ends_in_start w b t) = absurd (subst IsStopped (invoked_ends k s h f p (Finished m) w v b a).0 t)
  ends_one k {main = main} {fuel = f} {store = s} {host = h} {final = final} (ends_behind_start {used = m} v a c) (ends_behind_start {used = n} {outcome = p} w b d) =
      let same = invoked_ends k s h f (Finished m) (Finished n) v w a b in
      let used : n ≡ m = cc in
      let later = ends_one k c (subst (λ (z : ℕ × State S). Ends program H main None z.1.store z.1.host (f - z.0) p final) (λ i. (used i, sym same.1 i)) d) in
      (λ i. behind (sym used i) (later.0 i), later.1)

-- With a host that answers a call in one way a run has one end.
pub one_end : {S : Type 0} {H : Meaning S} → IsFunction H → HasOneEnd H
one_end k program main start store host fuel one other last final a b = ends_one k a b
