-- What a player's module emits in a tick: it depends on the bytes of the module and on what the player sees,
-- and on nothing else.
use Rattle.std.specs.Prelude.{◌≡◌, ℕ, ◌*◌, List}
use Rattle.std.specs.List.{IsDistinct}
use Rattle.game_tables.specs.Limits.{unit_instructions}
use Rattle.object_store.specs.declared.account.Account.{Account}
use Rattle.wasm_link.specs.Linking.{Link, first_store}
use Rattle.wasm_steps.specs.Runs.{Ends}
use Rattle.wasm_steps.specs.Steps.{State}
use Rattle.wasm_steps.specs.declared.outcome.Outcome.{Outcome}
use Rattle.wasm_steps.specs.declared.outcome.Outcome.TheVariants as outcomes
use Rattle.wasm_steps.specs.declared.outcome.Trap.{Trap}
use Rattle.wasm_steps.specs.declared.outcome.Trap.TheVariants as traps
use Rattle.intent_book.specs.Records.{IsCanonical, same_place}
use Rattle.intent_book.specs.declared.player_run.PlayerRun.{PlayerRun}
use Rattle.intent_book.specs.declared.player_run.RunOutcome.{RunOutcome}
use Rattle.intent_book.specs.declared.player_run.RunOutcome.TheVariants as run
use Rattle.visible_view.specs.Sights.{Sight}
use Rattle.host_calls.specs.Desks.{Desk, allowance, desk_of}
use Rattle.host_calls.specs.Replies.{answers}
use Rattle.player_run.specs.Admission.{Accepts}

-- the number of a trap
abbrev pub trap_number : Trap → ℕ
trap_number traps.Unreachable = 1
trap_number traps.DivideByZero = 2
trap_number traps.Overflow = 3
trap_number traps.MemoryBounds = 4
trap_number traps.TableBounds = 5
trap_number traps.EmptyEntry = 6
trap_number traps.WrongType = 7
trap_number traps.CallDepth = 8
trap_number traps.StackFull = 9

-- how a run ended, and how many instructions it used
abbrev pub outcome_of : Outcome → RunOutcome
outcome_of (outcomes.Finished used) = run.Finished
outcome_of (outcomes.Trapped used trap) = run.Trapped (trap_number trap)
outcome_of (outcomes.Spent used) = run.Spent

abbrev pub used_of : Outcome → ℕ
used_of (outcomes.Finished used) = used
used_of (outcomes.Trapped used trap) = used
used_of (outcomes.Spent used) = used

-- the instructions that a player's module may use in this tick
abbrev pub fuel_of : Account → ℕ
fuel_of account = unit_instructions * allowance account

-- What a linked module emits of what is seen: the run of a fresh instance, with the desk as its host and the
-- allowance as its fuel. What was recorded and written before a trap or the end of the fuel stands.
pub record EmitsBy (link : Link) (sight : Sight) (emitted : PlayerRun) : Type 0 where
  pub outcome : Outcome
  pub last : State Desk
  pub ends : Ends link.program answers link.main link.whole.start (first_store link.whole) (desk_of sight)
      (fuel_of sight.account) outcome last
  pub player : emitted.player ≡ sight.account.player
  pub ended : emitted.outcome ≡ outcome_of outcome
  pub used : emitted.used ≡ used_of outcome
  pub single : IsDistinct same_place last.host.book.entries
  pub intents : IsCanonical last.host.book.entries emitted.intents
  pub memory : emitted.memory ≡ last.host.memory

-- what the module of these bytes emits of what is seen
abbrev pub Emits : List ℕ → Sight → PlayerRun → Type 0
Emits bytes sight emitted = (link : Link) × Accepts bytes link × EmitsBy link sight emitted
