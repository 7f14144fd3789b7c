-- The runs of a tick have the form of what is recorded.
use Rattle.std.proofs.Common.{◌≡◌, ℕ, ◌<◌, ◌≤◌, ◌^◌, ◌==◌, Bool, true, false, cond, List, [], ◌∷◌, map, length, Option, Some, None, refl, sym, ap, subst, arith, IsSortedByKey}
use Rattle.std.specs.FinMap.{get}
use Rattle.std.specs.List.{AllByRecursion}
use Rattle.std.proofs.lemmas.Bool.{eq-eqb}
use Rattle.std.proofs.lemmas.List.Elements.{recursion_from_All}
use Rattle.game_tables.specs.Bodies.{most_parts}
use Rattle.object_store.specs.declared.account.Account.{Account}
use Rattle.object_store.specs.Stored.{AreRising, HasAccount, find_account}
use Rattle.intent_book.specs.Records.{AreOf, place, place_cmp}
use Rattle.intent_book.specs.declared.intent.Intent.{Intent}
use Rattle.intent_book.specs.declared.player_run.PlayerRun.{PlayerRun}
use Rattle.wasm_link.specs.Linking.{Link}
use Rattle.wasm_steps.specs.declared.outcome.Outcome.{Outcome}
use Rattle.wasm_steps.specs.declared.outcome.Outcome.TheVariants as outcomes
use Rattle.wasm_steps.specs.declared.outcome.Trap.{Trap}
use Rattle.wasm_steps.specs.declared.outcome.Trap.TheVariants as traps
use Rattle.world_rules.specs.World.{World}
use Rattle.visible_view.specs.Sights.{Sight, sight_of}
use Rattle.player_run.specs.Emitted.{EmitsBy, outcome_of, trap_number}
use Rattle.player_run.proofs.Owned.{emitted_own}
use Rattle.hosted_tick.specs.Next.{AreRuns, BeginWith, Modules}
use Rattle.world_bytes.specs.Forms.{HasIntentForm}
use Rattle.world_bytes.specs.Numbers.{IntentFits}
use Rattle.tick_journal.specs.Contents.{run_entry}
use Rattle.tick_journal.specs.Numbers.{RunFits}
use Rattle.tick_journal.specs.TickForms.{HasRunForm, IsOutcome, IsRisingBy}
use Rattle.tick_journal.specs.declared.entries.RunEntry.{RunEntry}
use Rattle.recorded_tick.proofs.Bounds.{AreFew, emitted_few}
use Rattle.recorded_tick.proofs.Lists.{all_mapped}

rising_entries : (runs : List PlayerRun) → IsRisingBy (λ (run : PlayerRun). run.player) runs → IsRisingBy (λ (run : RunEntry). run.player) (map run_entry runs)
rising_entries [] rising = tt
rising_entries (run ∷ runs) rising = (all_mapped (λ (other : RunEntry). run.player < other.player) run_entry runs rising.0, rising_entries runs rising.1)

-- ---- one run

trap_numbered : (trap : Trap) → (1 ≤ trap_number trap) × (trap_number trap ≤ 9)
trap_numbered traps.Unreachable = (omega arith, omega arith)
trap_numbered traps.DivideByZero = (omega arith, omega arith)
trap_numbered traps.Overflow = (omega arith, omega arith)
trap_numbered traps.MemoryBounds = (omega arith, omega arith)
trap_numbered traps.TableBounds = (omega arith, omega arith)
trap_numbered traps.EmptyEntry = (omega arith, omega arith)
trap_numbered traps.WrongType = (omega arith, omega arith)
trap_numbered traps.CallDepth = (omega arith, omega arith)
trap_numbered traps.StackFull = (omega arith, omega arith)

is_outcome : (outcome : Outcome) → IsOutcome (outcome_of outcome)
is_outcome (outcomes.Finished used) = tt
is_outcome (outcomes.Trapped used trap) = trap_numbered trap
is_outcome (outcomes.Spent used) = tt

-- What is recorded of a run, but for its numbers.
pub record IsEmitted (run : RunEntry) : Type 0 where
  pub outcome : IsOutcome run.outcome
  pub own : AreOf run.player run.intents
  pub sorted : IsSortedByKey place place_cmp run.intents
  pub few : AreFew run.intents

emitted : (link : Link) (sight : Sight) (run : PlayerRun) → EmitsBy link sight run → IsEmitted (run_entry run)
emitted link sight run emits = record {
  outcome = subst IsOutcome (sym emits.ended) (is_outcome emits.outcome);
  own = subst (λ (player : ℕ). AreOf player run.intents) (sym emits.player) (emitted_own link sight run emits);
  sorted = emits.intents.1;
  few = emitted_few link sight run emits;
}

intent_forms : (player : ℕ) (intents : List Intent) → player < 2 ^ 32 → AllByRecursion (λ (entry : Intent). entry.player ≡ player) intents → AllByRecursion (λ (entry : Intent). length entry.body ≤ most_parts) intents → AllByRecursion IntentFits intents
    → AllByRecursion HasIntentForm intents
intent_forms player [] small own bodies fit = tt
intent_forms player (intent ∷ intents) small own bodies fit = (
  record { parts = bodies.0; player = subst (λ (n : ℕ). n < 2 ^ 32) (sym own.0) small; actor = fit.0.actor; target = fit.0.target; amount = fit.0.amount },
  intent_forms player intents small own.1 bodies.1 fit.1,
)

pub run_form : (run : RunEntry) → IsEmitted run → RunFits run → HasRunForm run
run_form run is fit = record {
  outcome = is.outcome;
  intents = record {
    own = is.own;
    most = is.few.most;
    sorted = is.sorted;
    distinct = is.few.distinct;
    forms = intent_forms run.player run.intents fit.player (recursion_from_All (λ (entry : Intent). entry.player ≡ run.player) run.intents is.own) is.few.bodies fit.intents;
  };
  player = fit.player;
  used = fit.used;
}

-- ---- all runs

module _ (world : World) where
  module _ (P : PlayerRun → Type 0) where
    begin_each : (bytes : Option (List ℕ)) (sight : Sight) (Others : List PlayerRun → Type 0) → ((link : Link) (run : PlayerRun) → EmitsBy link sight run → P run)
        → ((runs : List PlayerRun) → Others runs → AllByRecursion P runs) → (runs : List PlayerRun) → BeginWith bytes sight Others runs → AllByRecursion P runs
    begin_each None sight Others holds go runs so = go runs so
    begin_each (Some bytes) sight Others holds go runs so = subst (AllByRecursion P) (sym so.2) (holds so.3.0 so.0 so.3.2, go so.1 so.4)

    -- What holds of what is emitted of each account holds of all runs.
    pub runs_each : (modules : Modules) (Q : Account → Type 0) → ((account : Account) → Q account → (link : Link) (run : PlayerRun) → EmitsBy link (sight_of world account) run → P run)
        → (accounts : List Account) → AllByRecursion Q accounts → (runs : List PlayerRun) → AreRuns world modules accounts runs → AllByRecursion P runs
    runs_each modules Q holds [] all runs ran = subst (AllByRecursion P) (sym ran) tt
    runs_each modules Q holds (account ∷ later) all runs ran =
        begin_each (get modules account.player) (sight_of world account) (AreRuns world modules later) (holds account all.0) (runs_each modules Q holds later all.1) runs ran

  begin_rises : (bytes : Option (List ℕ)) (sight : Sight) (Others : List PlayerRun → Type 0)
      → ((runs : List PlayerRun) → Others runs → AllByRecursion (λ (run : PlayerRun). sight.account.player < run.player) runs)
      → ((runs : List PlayerRun) → Others runs → IsRisingBy (λ (run : PlayerRun). run.player) runs) → (runs : List PlayerRun) → BeginWith bytes sight Others runs → IsRisingBy (λ (run : PlayerRun). run.player) runs
  begin_rises None sight Others above go runs so = go runs so
  begin_rises (Some bytes) sight Others above go runs so =
      let own = so.3.2.player in
      subst (IsRisingBy (λ (run : PlayerRun). run.player)) (sym so.2) (subst (λ (n : ℕ). AllByRecursion (λ (run : PlayerRun). n < run.player) so.1) (sym own) (above so.1 so.4), go so.1 so.4)

  runs_rise : (modules : Modules) (accounts : List Account) → AreRising accounts → (runs : List PlayerRun) → AreRuns world modules accounts runs → IsRisingBy (λ (run : PlayerRun). run.player) runs
  runs_rise modules [] rising runs ran = subst (IsRisingBy (λ (run : PlayerRun). run.player)) (sym ran) tt
  runs_rise modules (account ∷ later) rising runs ran =
      begin_rises (get modules account.player) (sight_of world account) (AreRuns world modules later)
      (runs_each (λ (run : PlayerRun). account.player < run.player) modules (λ (other : Account). account.player < other.player)
      (λ other above link run emits. subst (λ (n : ℕ). account.player < n) (sym emits.player) above) later rising.0)
      (runs_rise modules later rising.1) runs ran

  pub entries_rise : (modules : Modules) (accounts : List Account) → AreRising accounts → (runs : List PlayerRun) → AreRuns world modules accounts runs → IsRisingBy (λ (run : RunEntry). run.player) (map run_entry runs)
  entries_rise modules accounts rising runs ran = rising_entries runs (runs_rise modules accounts rising runs ran)

  every : (accounts : List Account) → AllByRecursion (λ (account : Account). Unit {0}) accounts
  every [] = tt
  every (account ∷ accounts) = (tt, every accounts)

  pub entries_emitted : (modules : Modules) (accounts : List Account) (runs : List PlayerRun) → AreRuns world modules accounts runs → AllByRecursion IsEmitted (map run_entry runs)
  entries_emitted modules accounts runs ran =
      all_mapped IsEmitted run_entry runs
      (runs_each (λ (run : PlayerRun). IsEmitted (run_entry run)) modules (λ (account : Account). Unit {0}) (λ account any link run emits. emitted link (sight_of world account) run emits) accounts (every accounts) runs ran)

-- ---- whose they are

have_more : (player : ℕ) (account : Account) (accounts : List Account) → HasAccount player accounts → HasAccount player (account ∷ accounts)
have_more player account accounts has = elim (account.player == player) as (λ b. (found : Account) × (cond b (Some account) (find_account player accounts) ≡ Some found)) [ true ↦ (account, refl) | false ↦ has ]

-- Each account is that of a player who has one.
pub all_have : (accounts : List Account) → AllByRecursion (λ (account : Account). HasAccount account.player accounts) accounts
all_have [] = tt
all_have (account ∷ accounts) = (
  (account, ap (λ (b : Bool). cond b (Some account) (find_account account.player accounts)) (eq-eqb account.player account.player refl)),
  more accounts (all_have accounts),
)
  where
    more : (later : List Account) → AllByRecursion (λ (other : Account). HasAccount other.player accounts) later → AllByRecursion (λ (other : Account). HasAccount other.player (account ∷ accounts)) later
    more [] all = tt
    more (other ∷ later) all = (have_more other.player account accounts all.0, more later all.1)

pub runs_have : (world : World) (modules : Modules) (accounts : List Account) (runs : List PlayerRun) → AreRuns world modules accounts runs → AllByRecursion (λ (run : RunEntry). HasAccount run.player accounts) (map run_entry runs)
runs_have world modules accounts runs ran =
    all_mapped (λ (run : RunEntry). HasAccount run.player accounts) run_entry runs
    (runs_each world (λ (run : PlayerRun). HasAccount run.player accounts) modules (λ (account : Account). HasAccount account.player accounts)
    (λ account has link run emits. subst (λ (n : ℕ). HasAccount n accounts) (sym emits.player) has) accounts (all_have accounts) runs ran)
