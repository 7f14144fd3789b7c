-- The steps that running an instruction takes.
use Rattle.std.proofs.Common.{◌≡◌, ℕ, zero, suc, ◌≤◌, false, cond, eqb, List, [], ◌∷◌, length, drop, get_or, Option, Result, Ok, Err, MatchResult, ◌⊎◌, inl, inr, refl, ap, sym, ◌∙◌, subst, arith}
use Rattle.std.proofs.lemmas.Bool.Decides.{nat_tests}
use Rattle.wasm_values.specs.Syntax.{Op, Ops, next, no_ops, nop, block, loop, if_else, br, br_if, br_table, return}
use Rattle.wasm_values.specs.declared.types.ValType.{ValType}
use Rattle.wasm_typing.specs.Context.{Context}
use Rattle.wasm_steps.specs.Program.{Program, Store, most_values}
use Rattle.wasm_steps.specs.Threads.{Level, arity, size, Branches, Returns}
use Rattle.wasm_steps.specs.Plain.{Fails, does_nop}
use Rattle.wasm_steps.specs.Steps.{Meaning, Step, Stops, step_plain, step_block, step_loop, step_then, step_else, step_br, step_br_if, step_no_br_if, step_br_table, step_return, stops_plain, stops_full, target_of}
use Rattle.wasm_steps.specs.declared.outcome.Trap.{Trap}
use Rattle.wasm_steps.specs.declared.outcome.Trap.TheVariants as traps
use Rattle.wasm_soundness.specs.Typed.{IsTyped}
use Rattle.wasm_soundness.proofs.Plain.{nop_on}
use Rattle.wasm_soundness.proofs.Blocks.{enters_block, enters_loop, enters_if}
use Rattle.wasm_soundness.proofs.Branches.{br_on, br_if_on, br_table_on, return_on}
use Rattle.wasm_stack.specs.Held.{Held, running, opened, without}
use Rattle.wasm_stack.specs.View.{ops_at}
use Rattle.wasm_stack.specs.declared.place.Place.{Place}
use Rattle.wasm_plain.specs.Done.{data_of, IsDone, IsFull, IsStopped, IsRun}
use Rattle.wasm_machine.specs.Machine.{state_of, IsSoundAt, Ran, Stopped, Executes}

top_split : (xs : List ℕ) → 1 ≤ length xs → xs ≡ get_or xs 0 0 ∷ drop 1 xs
top_split [] h = absurd (omega (arith, h))
top_split (x ∷ xs) h = refl

stops_so : {S : Type 0} {program : Program} (op : Op) (rest : Ops) (old : Held) (before : Store) (host : S) (trap : Trap)
    → Fails op (data_of old before) trap ⊎ ((trap ≡ traps.StackFull) × IsFull op old before) → Stops program (state_of (next op rest) old before host) trap
stops_so {S} {program} op rest old before host trap (inl fails) = stops_plain refl fails
stops_so {S} {program} op rest old before host trap (inr full) =
    let stopped = stops_full {op = op} {rest = rest} {held = full.1.result} refl full.1.does full.1.full in
    subst (λ (z : Trap). Stops program (state_of (next op rest) old before host) z) (sym full.0) stopped

pub stopped_plain : {S : Type 0} {program : Program} (op : Op) (rest : Ops) (old new : Held) (before after : Store) (host : S) (trap : Trap)
    → IsStopped op old before trap new after → Stopped program (next op rest) old before host trap new after host
stopped_plain {S} {program} op rest old new before after host trap stopped =
    record { stops = stops_so op rest old before host trap stopped.cause; held = stopped.held; stored = stopped.stored; host_kept = refl }

pub executes_seen : {S : Type 0} (program : Program) (H : Meaning S) (base : Context) (op view : Op) (rest : Ops) (old new : Held) (before kept : Store) (host later : S) (result : Result Place Trap)
    → view ≡ op → Executes program H base (next op rest) old before host result new kept later → Executes program H base (next view rest) old before host result new kept later
executes_seen {S} program H base op view rest old new before kept host later result e x =
    subst (λ (z : Op). Executes program H base (next z rest) old before host result new kept later) (sym e) x

module _ {S : Type 0} {program : Program} {H : Meaning S} {base : Context} where
  -- the same of equal instructions and equal stacks
  pub ran_at : {code after seen : Ops} {old new made : Held} {before kept : Store} {host later : S}
      → Ran program H base code old before host after new kept later → seen ≡ after → made ≡ new → Ran program H base code old before host seen made kept later
  ran_at {code} {after} {seen} {old} {new} {made} {before} {kept} {host} {later} r e f =
      let P : Ops → Held → Type 0 = λ y z. Ran program H base code old before host y z kept later in
      subst (λ (y : Ops). P y made) (sym e) (subst (λ (z : Held). P after z) (sym f) r)

  -- ---- plain instructions
  pub ran_plain : (op : Op) (rest : Ops) (old new : Held) (before after : Store) (host : S)
      → IsSoundAt base (next op rest) old before → IsDone op old before new after → Ran program H base (next op rest) old before host rest new after host
  ran_plain op rest old new before after host sound done =
      let P : List Level → Type 0 = λ z. size (record { code = rest; operands = new.operands; locals = new.locals; levels = z }) ≤ most_values in
      let Q : List Level → Type 0 = λ z. Step program H (state_of (next op rest) old before host) 1 (record { thread = record { code = rest; operands = new.operands; locals = new.locals; levels = z }; store = after; host = host }) in
      let room : P old.levels = subst P done.levels done.room in
      let stepped : Q old.levels = step_plain {op = op} {rest = rest} {held = data_of new after} refl done.does room in
      record {
        step = subst Q (sym done.levels) stepped;
        sound = record { thread = done.thread base rest sound.thread sound.store; store = done.store base rest sound.thread sound.store };
      }

  -- ---- blocks
  pub ran_block : (kind : Option ValType) (body rest : Ops) (old : Held) (before : Store) (host : S)
      → IsSoundAt base (next (block kind body) rest) old before
      → Ran program H base (next (block kind body) rest) old before host body (opened (arity kind) rest rest old) before host
  ran_block kind body rest old before host sound = record {
    step = step_block refl;
    sound = record { thread = enters_block (running rest old) kind body sound.thread; store = sound.store };
  }

  pub ran_loop : (kind : Option ValType) (body rest : Ops) (old : Held) (before : Store) (host : S)
      → IsSoundAt base (next (loop kind body) rest) old before
      → Ran program H base (next (loop kind body) rest) old before host body (opened 0 (next (loop kind body) rest) rest old) before host
  ran_loop kind body rest old before host sound = record {
    step = step_loop refl;
    sound = record { thread = enters_loop (running rest old) kind body sound.thread; store = sound.store };
  }

  pub ran_then : (kind : Option ValType) (first second rest : Ops) (old : Held) (before : Store) (host : S)
      → IsSoundAt base (next (if_else kind first second) rest) old before → (get_or old.operands 0 0 ≡ 0 → ⊥)
      → Ran program H base (next (if_else kind first second) rest) old before host first (opened (arity kind) rest rest (without 1 old)) before host
  ran_then kind first second rest old before host sound some =
      let on = enters_if (running rest old) kind first second sound.thread in
      record {
        step = step_then refl (top_split old.operands on.0) some;
        sound = record { thread = on.2; store = sound.store };
      }

  pub ran_else : (kind : Option ValType) (first second rest : Ops) (old : Held) (before : Store) (host : S)
      → IsSoundAt base (next (if_else kind first second) rest) old before → get_or old.operands 0 0 ≡ 0
      → Ran program H base (next (if_else kind first second) rest) old before host second (opened (arity kind) rest rest (without 1 old)) before host
  ran_else kind first second rest old before host sound none =
      let on = enters_if (running rest old) kind first second sound.thread in
      record {
        step = step_else refl (top_split old.operands on.0 ∙ ap (λ n. n ∷ drop 1 old.operands) none);
        sound = record { thread = on.3; store = sound.store };
      }

  -- ---- branches
  pub ran_br : (to : ℕ) (rest after : Ops) (old new : Held) (before : Store) (host : S)
      → IsSoundAt base (next (br to) rest) old before → ((code : Ops) → Branches to (running code old) (running after new))
      → Ran program H base (next (br to) rest) old before host after new before host
  ran_br to rest after old new before host sound goes = record {
    step = step_br refl (goes (next (br to) rest));
    sound = record { thread = (br_on (running rest old) to sound.thread).1 (running after new) (goes rest); store = sound.store };
  }

  pub ran_br_if : (to : ℕ) (rest after : Ops) (old new : Held) (before : Store) (host : S)
      → IsSoundAt base (next (br_if to) rest) old before → (get_or old.operands 0 0 ≡ 0 → ⊥) → ((code : Ops) → Branches to (running code (without 1 old)) (running after new))
      → Ran program H base (next (br_if to) rest) old before host after new before host
  ran_br_if to rest after old new before host sound some goes =
      let on = br_if_on (running rest old) to sound.thread in
      record {
        step = step_br_if refl (top_split old.operands on.0) some (goes (next (br_if to) rest));
        sound = record { thread = on.4 (running after new) (goes rest); store = sound.store };
      }

  pub ran_no_br_if : (to : ℕ) (rest : Ops) (old : Held) (before : Store) (host : S)
      → IsSoundAt base (next (br_if to) rest) old before → get_or old.operands 0 0 ≡ 0
      → Ran program H base (next (br_if to) rest) old before host rest (without 1 old) before host
  ran_no_br_if to rest old before host sound none =
      let on = br_if_on (running rest old) to sound.thread in
      record {
        step = step_no_br_if refl (top_split old.operands on.0 ∙ ap (λ n. n ∷ drop 1 old.operands) none);
        sound = record { thread = on.2; store = sound.store };
      }

  pub ran_br_table : (several : List ℕ) (last : ℕ) (rest after : Ops) (old new : Held) (before : Store) (host : S)
      → IsSoundAt base (next (br_table several last) rest) old before
      → ((code : Ops) → Branches (target_of several last (get_or old.operands 0 0)) (running code (without 1 old)) (running after new))
      → Ran program H base (next (br_table several last) rest) old before host after new before host
  ran_br_table several last rest after old new before host sound goes =
      let on = br_table_on (running rest old) several last sound.thread in
      record {
        step = step_br_table refl (top_split old.operands on.0) refl (goes (next (br_table several last) rest));
        sound = record { thread = (on.2 (get_or old.operands 0 0)).1 (running after new) (goes rest); store = sound.store };
      }

  pub ran_return : (rest after : Ops) (old new : Held) (before : Store) (host : S)
      → IsSoundAt base (next return rest) old before → ((code : Ops) → Returns (running code old) (running after new))
      → Ran program H base (next return rest) old before host after new before host
  ran_return rest after old new before host sound goes = record {
    step = step_return refl (goes (next return rest));
    sound = record { thread = (return_on (running rest old) sound.thread).1 (running after new) (goes rest); store = sound.store };
  }

-- `nop` does nothing
pub done_nop : (old : Held) (before : Store) → size (running no_ops old) ≤ most_values → IsDone nop old before old before
done_nop old before room = record {
  does = does_nop;
  levels = refl;
  room = room;
  thread = λ base rest p stored. nop_on (running rest old) p;
  store = λ base rest p stored. stored;
}

-- ---- choices

zero_or : (n : ℕ) → (n ≡ 0) ⊎ (n ≡ 0 → ⊥)
zero_or zero = inl refl
zero_or (suc n) = inr (λ e. absurd (omega (arith, e)))

at_zero : {A : Type 0} (n : ℕ) (x y : A) → n ≡ 0 → cond (eqb n 0) x y ≡ x
at_zero n x y e = ap (λ k. cond (eqb k 0) x y) e

not_zero : {A : Type 0} (n : ℕ) (x y : A) → (n ≡ 0 → ⊥) → cond (eqb n 0) x y ≡ y
not_zero zero x y e = absurd (e refl)
not_zero (suc n) x y e = let f : eqb (suc n) 0 ≡ false = grind (arith, nat_tests) in ap (λ b. cond b x y) f

pub ran_choice : {S : Type 0} {program : Program} {H : Meaning S} {base : Context} (kind : Option ValType) (first second rest after : Ops) (old new : Held) (before : Store) (host : S)
    → IsSoundAt base (next (if_else kind first second) rest) old before
    → after ≡ cond (eqb (get_or old.operands 0 0) 0) second first → new ≡ opened (arity kind) rest rest (without 1 old)
    → Ran program H base (next (if_else kind first second) rest) old before host after new before host
ran_choice {S} {program} {H} {base} kind first second rest after old new before host sound e f =
    elim (zero_or (get_or old.operands 0 0)) [
      | inl none ↦ ran_at (ran_else kind first second rest old before host sound none) (e ∙ at_zero (get_or old.operands 0 0) second first none) f
      | inr some ↦ ran_at (ran_then kind first second rest old before host sound some) (e ∙ not_zero (get_or old.operands 0 0) second first some) f
    ]

pub ran_if_branch : {S : Type 0} {program : Program} {H : Meaning S} {base : Context} (to : ℕ) (rest after : Ops) (old new : Held) (before : Store) (host : S)
    → IsSoundAt base (next (br_if to) rest) old before
    → ((get_or old.operands 0 0 ≡ 0 → ⊥) → (code : Ops) → Branches to (running code (without 1 old)) (running after new))
    → (get_or old.operands 0 0 ≡ 0 → (new ≡ without 1 old) × (after ≡ rest))
    → Ran program H base (next (br_if to) rest) old before host after new before host
ran_if_branch {S} {program} {H} {base} to rest after old new before host sound taken passed =
    elim (zero_or (get_or old.operands 0 0)) [
      | inl none ↦ ran_at (ran_no_br_if to rest old before host sound none) (passed none).1 (passed none).0
      | inr some ↦ ran_br_if to rest after old new before host sound some (taken some)
    ]

-- ---- as the code runs them: the instruction that is seen is this one

sound_as : {base : Context} {op seen : Op} {rest : Ops} {old : Held} {before : Store} → seen ≡ op → IsSoundAt base (next seen rest) old before → IsSoundAt base (next op rest) old before
sound_as {base} {op} {seen} {rest} {old} {before} e sound = subst (λ (z : Op). IsSoundAt base (next z rest) old before) e sound

pub arm_done : {S : Type 0} (program : Program) (H : Meaning S) (base : Context) (op seen : Op) (rest : Ops) (old new : Held) (before after : Store) (host : S)
    → seen ≡ op → IsSoundAt base (next seen rest) old before → IsDone op old before new after
    → Ran program H base (next seen rest) old before host rest new after host
arm_done {S} program H base op seen rest old new before after host e sound done =
    subst (λ (z : Op). Ran program H base (next z rest) old before host rest new after host) (sym e) (ran_plain op rest old new before after host (sound_as e sound) done)

pub arm_stopped : {S : Type 0} (program : Program) (op seen : Op) (rest : Ops) (old new : Held) (before after : Store) (host : S) (trap : Trap)
    → seen ≡ op → IsStopped op old before trap new after → Stopped program (next seen rest) old before host trap new after host
arm_stopped {S} program op seen rest old new before after host trap e stopped =
    subst (λ (z : Op). Stopped program (next z rest) old before host trap new after host) (sym e) (stopped_plain op rest old new before after host trap stopped)

pub arm_onward : {S : Type 0} (program : Program) (H : Meaning S) (base : Context) (op seen : Op) (here : Place) (old new : Held) (before after : Store) (host : S) (ran : Result (Unit {0}) Trap) (result : Result Place Trap)
    → seen ≡ op → IsSoundAt base (next seen (ops_at here)) old before
    → IsRun op old before ran new after
    → MatchResult ran (λ _. MatchResult result (λ place. place ≡ here) (λ _. ⊥)) (λ trap. MatchResult result (λ _. ⊥) (λ told. told ≡ trap))
    → Executes program H base (next seen (ops_at here)) old before host result new after host
arm_onward {S} program H base op seen here old new before after host (Ok u) (Ok place) e sound done at =
    subst (λ (z : Place). Ran program H base (next seen (ops_at here)) old before host (ops_at z) new after host) (sym at) (arm_done program H base op seen (ops_at here) old new before after host e sound done)
arm_onward program H base op seen here old new before after host (Ok u) (Err trap) e sound done at = absurd at
arm_onward program H base op seen here old new before after host (Err trap) (Ok place) e sound done at = absurd at
arm_onward {S} program H base op seen here old new before after host (Err trap) (Err told) e sound stopped at =
    subst (λ (z : Trap). Stopped program (next seen (ops_at here)) old before host z new after host) (sym at) (arm_stopped program op seen (ops_at here) old new before after host trap e stopped)

-- the same for any instruction, by what it does where it is the next
pub arm_ran : {S : Type 0} (program : Program) (H : Meaning S) (base : Context) (op seen : Op) (rest after reached : Ops) (old new made : Held) (before kept : Store) (host later : S)
    → seen ≡ op → IsSoundAt base (next seen rest) old before
    → (IsSoundAt base (next op rest) old before → Ran program H base (next op rest) old before host after new kept later)
    → reached ≡ after → made ≡ new
    → Ran program H base (next seen rest) old before host reached made kept later
arm_ran {S} program H base op seen rest after reached old new made before kept host later e sound runs f g =
    subst (λ (z : Op). Ran program H base (next z rest) old before host reached made kept later) (sym e) (ran_at (runs (sound_as e sound)) f g)

pub arm_executes : {S : Type 0} (program : Program) (H : Meaning S) (base : Context) (op seen : Op) (rest : Ops) (old new : Held) (before kept : Store) (host later : S) (result : Result Place Trap)
    → seen ≡ op → IsSoundAt base (next seen rest) old before
    → (IsSoundAt base (next op rest) old before → Executes program H base (next op rest) old before host result new kept later)
    → Executes program H base (next seen rest) old before host result new kept later
arm_executes program H base op seen rest old new before kept host later result e sound runs = executes_seen program H base op seen rest old new before kept host later result e (runs (sound_as e sound))

pub typed_as : {base : Context} {op seen : Op} {rest : Ops} {old : Held} {before : Store} → seen ≡ op → IsSoundAt base (next seen rest) old before → IsTyped base (running (next op rest) old)
typed_as e sound = (sound_as e sound).thread
