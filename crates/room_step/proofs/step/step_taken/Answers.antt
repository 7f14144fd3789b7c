use Rattle.std.proofs.Common.{◌≡◌, ℕ, max, List, ap, subst, ◌∙◌, length, arith}
use Rattle.std.specs.Prelude.{IfOk}
use Rattle.std.proofs.lemmas.Result.{IfOk-weaker}
use Rattle.kept_entries.specs.Turns.{in_turn}
use Rattle.intent_book.specs.declared.intent.Intent.{Intent}
use Rattle.world_rules.specs.RoomParts.{table_part}
use Rattle.world_rules.specs.RoomTick.{kept_in}
use Rattle.room_table.specs.Tables.{Table}
use Rattle.ruled_tick.specs.inner.Entered.{wanted_spare}
use Rattle.room_step.specs.Stepping.{HasAtMost, IsStepped}
use Rattle.room_step.specs.declared.step.StepDone.{StepDone}
use Rattle.room_step.specs.inner.Course.{intents_in}
use Rattle.room_step.proofs.Stepped.{as_many_entries, few_entries}
use Rattle.room_step.proofs.step.step_taken.Goals as goal

pub step_entries-requires-clause-few : goal.step_entries-requires-clause-few
step_entries-requires-clause-few c =
    omega (arith, c.requires.few, ap length c.deref.ensures.value, few_entries (table_part c.args.ground.now c.args.room) c.args.intents.now c.in_ok-entries.entries.items (c.in_ok-entries.ensures c.args.ground.now))

pub step_entries-requires-clause-kept : goal.step_entries-requires-clause-kept
step_entries-requires-clause-kept c = (c.args.intents.now, ap intents_in c.deref.ensures.value ∙ c.in_ok-entries.ensures c.args.ground.now)

pub returns-clause-stepped : goal.returns-clause-stepped
returns-clause-stepped c =
    let grounds = c.args.ground.now in
    let list = c.args.intents.now in
    IfOk-weaker c.step_entries.result (λ (done : StepDone). (list : List Intent) → intents_in c.deref.result.now ≡ in_turn (kept_in (table_part grounds c.args.room) list) → IsStepped grounds list c.args.room done)
    (IsStepped grounds list c.args.room) (λ done is. is list (ap intents_in c.deref.ensures.value ∙ c.in_ok-entries.ensures grounds)) c.step_entries.ensures.stepped

pub returns-clause-memory : goal.returns-clause-memory
returns-clause-memory c =
    let grounds = c.args.ground.now in
    let room : Table = c.args.room in
    let many : length c.deref.result.now ≡ length (kept_in (table_part grounds room) c.args.intents.now) =
    as_many_entries (table_part grounds room) c.args.intents.now c.deref.result.now (ap intents_in c.deref.ensures.value ∙ c.in_ok-entries.ensures grounds) in
    subst (λ (n : ℕ). IfOk c.step_entries.result (λ (done : StepDone). HasAtMost (max room.spare (wanted_spare n (length room.objects))) room done.room)) many c.step_entries.ensures.memory
