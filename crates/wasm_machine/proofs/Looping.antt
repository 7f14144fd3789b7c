-- A run, a step at a time.
use Rattle.std.proofs.Common.{◌≡◌, ℕ, suc, ◌+◌, ◌<◌, ◌≤◌, [], length, refl, sym, subst, arith, add-zero}
use Rattle.wasm_values.specs.Syntax.{Op, Ops, next, no_ops}
use Rattle.wasm_typing.specs.Context.{Context}
use Rattle.wasm_steps.specs.Program.{Program, Store}
use Rattle.wasm_steps.specs.Threads.{Leaves}
use Rattle.wasm_steps.specs.Steps.{Meaning, State, step_leaves}
use Rattle.wasm_steps.specs.Runs.{Steps, one_more}
use Rattle.wasm_steps.specs.declared.outcome.Trap.{Trap}
use Rattle.wasm_steps.specs.declared.outcome.Outcome.TheVariants.{Finished, Trapped, Spent}
use Rattle.wasm_soundness.proofs.Ends.{kept_leaving, at_frame_end}
use Rattle.wasm_stack.specs.Held.{Held, running, IsAtEnd}
use Rattle.wasm_machine.specs.Machine.{state_of, IsSoundAt, Ran, Stopped}
use Rattle.wasm_machine.specs.Runs.{EndsSo}
use Rattle.wasm_machine.proofs.Heights.{leaving_lowers, stepping_raises}

pub at_end : (base : Context) (code : Ops) (old : Held) (store : Store) → IsSoundAt base code old store → code ≡ no_ops → IsAtEnd old
at_end base code old store sound e = λ results locals below rest levels f. at_frame_end (running code old) results locals below rest levels sound.thread e f

leaves_as : (code : Ops) (old : Held) (after : Ops) (new : Held) → code ≡ no_ops → Leaves (running no_ops old) (running after new) → Leaves (running code old) (running after new)
leaves_as code old after new e leaves = subst (λ (z : Ops). Leaves (running z old) (running after new)) (sym e) leaves

module _ {S : Type 0} {program : Program} {H : Meaning S} {first : State S} where
  pub seen_more : (code seen : Ops) (old : Held) (store : Store) (host : S) (used : ℕ) → Steps program H first used (state_of code old store host) → code ≡ seen → Steps program H first used (state_of seen old store host)
  seen_more code seen old store host used so_far e = subst (λ (z : Ops). Steps program H first used (state_of z old store host)) e so_far

  pub left_more : (code after : Ops) (old new : Held) (store : Store) (host : S) (used : ℕ) → Steps program H first used (state_of code old store host)
      → code ≡ no_ops → Leaves (running no_ops old) (running after new) → Steps program H first used (state_of after new store host)
  left_more code after old new store host used so_far e leaves =
      let P : ℕ → Type 0 = λ n. Steps program H first n (state_of after new store host) in
      subst P (add-zero used) (one_more so_far (step_leaves (leaves_as code old after new e leaves)))

  pub finished : (code : Ops) (old : Held) (store : Store) (host : S) (used fuel : ℕ) → used ≤ fuel → Steps program H first used (state_of code old store host)
      → code ≡ no_ops → old.levels ≡ [] → EndsSo program H first fuel (Finished used) store host
  finished code old store host used fuel within so_far e over = (state_of code old store host, (within, so_far, (e, over)), refl, refl)

  pub spent : (code rest : Ops) (op : Op) (old : Held) (store : Store) (host : S) (used fuel : ℕ) → used ≤ fuel → fuel ≤ used → Steps program H first used (state_of code old store host)
      → code ≡ next op rest → EndsSo program H first fuel (Spent used) store host
  spent code rest op old store host used fuel within all so_far e = (state_of code old store host, (omega arith, so_far, (op, rest, e)), refl, refl)

  pub trapped : (code seen : Ops) (old new : Held) (store kept : Store) (host later : S) (used fuel : ℕ) (trap : Trap) → used < fuel → Steps program H first used (state_of code old store host)
      → code ≡ seen → Stopped program seen old store host trap new kept later → EndsSo program H first fuel (Trapped (used + 1) trap) kept later
  trapped code seen old new store kept host later used fuel trap within so_far e stopped =
      let P : Ops → Type 0 = λ z. Steps program H first used (state_of z old store host) in
      (state_of seen old store host, (omega arith, used, refl, subst P e so_far, stopped.stops), sym stopped.host_kept, sym stopped.stored)

pub left_typed : (base : Context) (code after : Ops) (old new : Held) (store : Store) → IsSoundAt base code old store → code ≡ no_ops → Leaves (running no_ops old) (running after new) → IsSoundAt base after new store
left_typed base code after old new store sound e leaves = record { thread = kept_leaving (running code old) (running after new) sound.thread (leaves_as code old after new e leaves); store = sound.store }

pub left_lower : (after : Ops) (old new : Held) → Leaves (running no_ops old) (running after new) → length old.levels ≡ suc (length new.levels)
left_lower after old new leaves = leaving_lowers (running no_ops old) (running after new) leaves

pub ran_higher : {S : Type 0} (program : Program) (H : Meaning S) (base : Context) (code after : Ops) (old new : Held) (store kept : Store) (host later : S)
    → Ran program H base code old store host after new kept later → length new.levels ≤ length old.levels + 1
ran_higher program H base code after old new store kept host later ran = stepping_raises program H (state_of code old store host) (state_of after new kept later) 1 ran.step
