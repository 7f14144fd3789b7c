-- What calls lead to.
use Rattle.std.proofs.Common.{List, [], ◌∷◌, drop, get_or, ◌≡◌, ℕ, ◌+◌, ◌-◌, ◌<◌, ◌≤◌, length, take, reverse, Result, Ok, Err, MatchResult, Option, Some, slice_get, inl, inr, refl, ap, sym, ◌∙◌, subst, arith, length-drop}
use Rattle.wasm_values.specs.Syntax.{Ops, no_ops, next, call, call_indirect}
use Rattle.wasm_values.specs.declared.types.FuncType.{FuncType}
use Rattle.wasm_store.specs.Memory.{Memory}
use Rattle.wasm_typing.specs.Context.{Context}
use Rattle.wasm_steps.specs.Program.{Function, imported, defined, Program, Store, most_frames, most_values}
use Rattle.wasm_steps.specs.Threads.{arity, frame_count, size}
use Rattle.wasm_steps.specs.Steps.{Meaning, Calls, CallFails, calls_own, calls_host, fails_depth, fails_room, fails_answer, Finds, FindsNone, step_call, step_call_indirect, stops_call, stops_call_indirect, stops_unfound}
use Rattle.wasm_steps.specs.declared.outcome.Trap.{Trap}
use Rattle.wasm_steps.specs.declared.outcome.Trap.TheVariants as traps
use Rattle.wasm_soundness.specs.Typed.{IsTypedStore}
use Rattle.wasm_soundness.specs.Ready.{CanCall}
use Rattle.wasm_stack.specs.Held.{Held, running, called, pushed, without, most_controls}
use Rattle.wasm_stack.specs.View.{ops_at}
use Rattle.wasm_stack.specs.declared.place.Place.{Place}
use Rattle.wasm_machine.specs.Machine.{state_of, IsSoundAt, Ran, Stopped, Executes}
use Rattle.wasm_machine.specs.inner.Calls.{IsEntered, IsNotEntered, IsAnswered, MayCall, CallRuns, CallIsTyped, arguments_of}
use Rattle.wasm_machine.proofs.Rooms.{has_room}

-- one function stands at an index
pub same_found : {one two : Function} {found : Option Function} → found ≡ Some one → found ≡ Some two → one ≡ two
same_found e f = cc

pub host_called : {S : Type 0} {H : Meaning S} (found : Function) (type : FuncType) (number : ℕ) (rest code : Ops) (old new : Held) (before : Store) (memory after : Memory) (host later : S)
    → found ≡ imported type number → before.memory ≡ memory → IsAnswered H type number old new memory after host later
    → size (running no_ops old) - length type.params + arity type.result ≤ most_values
    → Calls H found rest (state_of code old before host) (state_of rest new (record before { memory = after }) later)
host_called {S} {H} found type number rest code old new before memory after host later e m a fits =
    let P : Function → Held → Type 0 = λ f z. Calls H f rest (state_of code old before host) (state_of rest z (record before { memory = after }) later) in
    let answers = subst (λ (z : Memory). H host number (arguments_of type.params (reverse (take (length type.params) old.operands))) z a.answer after later) (sym m) a.answers in
    subst (λ (f : Function). P f new) (sym e) (subst (λ (z : Held). P (imported type number) z) (sym a.gives) (calls_host fits answers))

pub host_refused : {S : Type 0} (found : Function) (type : FuncType) (number : ℕ) (code : Ops) (old : Held) (before : Store) (host : S) (trap : Trap)
    → found ≡ imported type number → trap ≡ traps.StackFull → most_values < size (running no_ops old) - length type.params + arity type.result
    → CallFails found (state_of code old before host) trap
host_refused {S} found type number code old before host trap e t full =
    subst (λ (f : Function). CallFails f (state_of code old before host) trap) (sym e) (subst (λ (z : Trap). CallFails (imported type number) (state_of code old before host) z) (sym t) (fails_answer full))

pub own_called : {S : Type 0} {H : Meaning S} (found : Function) (type : FuncType) (params more results : ℕ) (body rest code after : Ops) (old new : Held) (before : Store) (memory : Memory) (host : S)
    → found ≡ defined type more body → params ≡ length type.params → results ≡ arity type.result → after ≡ body → before.memory ≡ memory → IsEntered params more results rest old new
    → Calls H found rest (state_of code old before host) (state_of after new (record before { memory = memory }) host)
own_called {S} {H} found type params more results body rest code after old new before memory host e p r b m entered =
    let to : new ≡ called (length type.params) more (arity type.result) rest old =
    entered.enters ∙ ap (λ n. called n more results rest old) p ∙ ap (λ n. called (length type.params) more n rest old) r in
    let P : Function → Ops → Held → Memory → Type 0 = λ f y z w. Calls H f rest (state_of code old before host) (state_of y z (record before { memory = w }) host) in
    subst (λ (f : Function). P f after new memory) (sym e)
    (subst (λ (y : Ops). P (defined type more body) y new memory) (sym b)
    (subst (λ (z : Held). P (defined type more body) body z memory) (sym to)
    (subst (λ (w : Memory). P (defined type more body) body (called (length type.params) more (arity type.result) rest old) w) m (calls_own entered.frames entered.room))))

pub own_refused : {S : Type 0} (found : Function) (type : FuncType) (more : ℕ) (body rest code : Ops) (old : Held) (before : Store) (host : S) (trap : Trap)
    → found ≡ defined type more body → IsNotEntered more rest old trap
    → CallFails found (state_of code old before host) trap
own_refused {S} found type more body rest code old before host trap e (inl deep) =
    subst (λ (f : Function). CallFails f (state_of code old before host) trap) (sym e) (subst (λ (z : Trap). CallFails (defined type more body) (state_of code old before host) z) (sym deep.0) (fails_depth deep.1))
own_refused {S} found type more body rest code old before host trap e (inr full) =
    subst (λ (f : Function). CallFails f (state_of code old before host) trap) (sym e) (subst (λ (z : Trap). CallFails (defined type more body) (state_of code old before host) z) (sym full.0) (fails_room full.1 full.2))

-- a call that was made, or not
pub own_runs : {S : Type 0} (H : Meaning S) (found : Function) (type : FuncType) (params more results : ℕ) (body rest code : Ops) (old new : Held) (before : Store) (memory : Memory) (host : S) (result : Result Place Trap)
    → found ≡ defined type more body → params ≡ length type.params → results ≡ arity type.result → before.memory ≡ memory
    → MatchResult result (λ place. ops_at place ≡ body) (λ _. new ≡ old)
    → MatchResult result (λ _. IsEntered params more results rest old new) (IsNotEntered more rest old)
    → MatchResult result (λ place. Calls H found rest (state_of code old before host) (state_of (ops_at place) new (record before { memory = memory }) host)) (λ trap. CallFails found (state_of code old before host) trap × (new ≡ old) × (memory ≡ before.memory) × (host ≡ host))
own_runs H found type params more results body rest code old new before memory host (Ok place) e p r m at entered =
    own_called found type params more results body rest code (ops_at place) old new before memory host e p r at m entered
own_runs H found type params more results body rest code old new before memory host (Err trap) e p r m at entered =
    (own_refused found type more body rest code old before host trap e entered, at, sym m, refl)

-- where a function is entered there is room for its frame
pub frame_fits : (found : Function) (type : FuncType) (more : ℕ) (body rest : Ops) (old : Held) → found ≡ defined type more body → MayCall found rest old
    → frame_count old.levels < most_frames → size (running no_ops old) + more ≤ most_values → length old.levels < most_controls
frame_fits found type more body rest old e may few fits = has_room may.0 _ _ _ (may.1.own type more body e few fits) refl

-- ---- the instructions that call

-- with the memory that it has
with_its_own : (before : Store) (memory : Memory) → memory ≡ before.memory → record before { memory = memory } ≡ before
with_its_own before memory same = ap (λ (m : Memory). record before { memory = m }) same

kept_store : (base : Context) (before : Store) (memory : Memory) → IsTypedStore base before → IsTypedStore base (record before { memory = memory })
kept_store base before memory typed = record { globals = typed.globals; table = typed.table }

pub ran_call : {S : Type 0} (program : Program) (H : Meaning S) (base : Context) (func : ℕ) (rest : Ops) (found : Function) (old new : Held) (before : Store) (memory : Memory) (host later : S) (result : Result Place Trap)
    → IsSoundAt base (next (call func) rest) old before → slice_get program.functions func ≡ Some found → CanCall base found (running rest old)
    → CallRuns H found rest old before host result new memory later → CallIsTyped found rest old result new
    → Executes program H base (next (call func) rest) old before host result new (record before { memory = memory }) later
ran_call program H base func rest found old new before memory host later (Ok place) sound known can runs typed = record {
  step = step_call refl known (runs (next (call func) rest));
  sound = record { thread = typed base can; store = kept_store base before memory sound.store };
}
ran_call program H base func rest found old new before memory host later (Err trap) sound known can runs typed =
    let fails = runs (next (call func) rest) in
    record { stops = stops_call refl known fails.0; held = fails.1; stored = with_its_own before memory fails.2; host_kept = fails.3 }

top_split : (xs : List ℕ) → 1 ≤ length xs → xs ≡ get_or xs 0 0 ∷ drop 1 xs
top_split [] h = absurd (omega (arith, h))
top_split (x ∷ xs) h = refl

-- an index that was taken off and put back
index_back : (old : Held) (entry : ℕ) → 1 ≤ length old.operands → entry ≡ get_or old.operands 0 0 → pushed entry (without 1 old) ≡ old
index_back old entry there e =
    ap (λ (xs : List ℕ). record old { operands = xs }) (ap (λ n. n ∷ drop 1 old.operands) e ∙ sym (top_split old.operands there))

pub stopped_unfound : {S : Type 0} (program : Program) (index : ℕ) (rest : Ops) (old : Held) (before : Store) (memory : Memory) (host : S) (trap : Trap)
    → 1 ≤ length old.operands → before.memory ≡ memory → FindsNone program before index (get_or old.operands 0 0) trap
    → Stopped program (next (call_indirect index) rest) old before host trap old (record before { memory = memory }) host
stopped_unfound program index rest old before memory host trap there m finds =
    record { stops = stops_unfound refl (top_split old.operands there) finds; held = refl; stored = with_its_own before memory (sym m); host_kept = refl }

-- A call of a function that the table has, whose index was taken off.
module _ {S : Type 0} (program : Program) (H : Meaning S) (base : Context) (index entry : ℕ) (rest : Ops) (found : Function) (old between new : Held) (before : Store) (memory : Memory) (host later : S) where
  pub ran_by_index : (place : Place) → IsSoundAt base (next (call_indirect index) rest) old before → 1 ≤ length old.operands → entry ≡ get_or old.operands 0 0 → between ≡ without 1 old
      → Finds program before index entry found → CanCall base found (running rest (without 1 old))
      → CallRuns H found rest between before host (Ok place) new memory later → CallIsTyped found rest between (Ok place) new
      → Ran program H base (next (call_indirect index) rest) old before host (ops_at place) new (record before { memory = memory }) later
  ran_by_index place sound there e b finds can runs typed =
      let found_there = subst (λ (n : ℕ). Finds program before index n found) e finds in
      let called_there = subst (λ (z : Held). CallRuns H found rest z before host (Ok place) new memory later) b runs in
      let typed_there = subst (λ (z : Held). CallIsTyped found rest z (Ok place) new) b typed in
      record {
        step = step_call_indirect refl (top_split old.operands there) found_there (called_there (next (call_indirect index) rest));
        sound = record { thread = typed_there base can; store = kept_store base before memory sound.store };
      }

  -- the same where it trapped, and the index was put back
  pub stopped_by_index : (trap : Trap) (back : Held) → 1 ≤ length old.operands → entry ≡ get_or old.operands 0 0 → between ≡ without 1 old
      → Finds program before index entry found
      → CallRuns H found rest between before host (Err trap) new memory later → back ≡ pushed entry new
      → Stopped program (next (call_indirect index) rest) old before host trap back (record before { memory = memory }) later
  stopped_by_index trap back there e b finds runs put =
      let found_there = subst (λ (n : ℕ). Finds program before index n found) e finds in
      let called_there = subst (λ (z : Held). CallRuns H found rest z before host (Err trap) new memory later) b runs in
      let fails = called_there (next (call_indirect index) rest) in
      record {
        stops = stops_call_indirect refl (top_split old.operands there) found_there fails.0;
        held = put ∙ ap (λ (z : Held). pushed entry z) fails.1 ∙ index_back old entry there e;
        stored = with_its_own before memory fails.2;
        host_kept = fails.3;
      }

-- where the index was taken off there is room for it
pub room_for_index : (old between : Held) (rest code : Ops) → 1 ≤ length old.operands → size (running code old) ≤ most_values → between ≡ without 1 old → size (running no_ops between) < most_values
room_for_index old between rest code there room e =
    let few = length-drop 1 old.operands in
    let fits : size (running no_ops (without 1 old)) < most_values = omega (arith, few, there, room) in
    subst (λ (z : Held). size (running no_ops z) < most_values) (sym e) fits

-- without its index an indirect call may be made
pub may_call : (base : Context) (code rest : Ops) (found : Function) (old between : Held) → between ≡ without 1 old → size (running code old) ≤ most_values → CanCall base found (running rest (without 1 old)) → MayCall found rest between
may_call base code rest found old between e room can =
    let few = length-drop 1 old.operands in
    let fits : size (running rest (without 1 old)) ≤ most_values = omega (arith, few, room) in
    subst (λ (z : Held). MayCall found rest z) (sym e) (base, can, fits)

pub may_call_here : (base : Context) (code rest : Ops) (one found : Function) (old : Held) → one ≡ found → size (running code old) ≤ most_values → CanCall base one (running rest old) → MayCall found rest old
may_call_here base code rest one found old e room can = (base, subst (λ (z : Function). CanCall base z (running rest old)) e can, room)
