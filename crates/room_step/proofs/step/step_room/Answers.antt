use Rattle.std.proofs.Common.{◌≡◌, max, List, ap, sym, subst, ◌∙◌, length, arith}
use Rattle.std.proofs.lemmas.Result.{IfOk-weaker}
use Rattle.kept_entries.specs.Turns.{in_turn}
use Rattle.intent_book.specs.declared.intent.Intent.{Intent}
use Rattle.room_table.specs.Tables.{Table}
use Rattle.world_rules.specs.RoomParts.{RoomPart, table_part}
use Rattle.world_rules.specs.RoomTick.{kept_in}
use Rattle.room_rules.specs.RoomRules.{KeepsRoomRules}
use Rattle.room_rules.specs.Within.{between}
use Rattle.ruled_tick.specs.inner.Entered.{wanted_spare}
use Rattle.room_step.specs.Stepping.{asked_for, HasAtMost, IsStepped, StaysInRules}
use Rattle.room_step.specs.declared.step.StepDone.{StepDone}
use Rattle.room_step.specs.inner.Course.{intents_in}
use Rattle.room_step.proofs.Stepped.{as_many_entries, few_entries, stepped_copy}
use Rattle.room_step.proofs.step.step_room.Goals as goal

pub overflow_cast-len : goal.overflow_cast-len
overflow_cast-len c =
    omega (arith, c.requires.few, c.len.ensures, c.in_ok-entries.entries.ok, few_entries (table_part c.args.ground.now c.args.room.now) c.args.intents.now c.in_ok-entries.entries.items (c.in_ok-entries.ensures c.args.ground.now))

pub step_entries-requires-clause-few : goal.step_entries-requires-clause-few
step_entries-requires-clause-few c =
    omega (arith, c.requires.few, ap length c.deref.ensures.value, few_entries (table_part c.args.ground.now c.args.room.now) c.args.intents.now c.in_ok-entries.entries.items (c.in_ok-entries.ensures c.args.ground.now))

pub step_entries-requires-clause-kept : goal.step_entries-requires-clause-kept
step_entries-requires-clause-kept c =
    let grounds = c.args.ground.now in
    let same : table_part grounds c.in_ok-table.table ≡ table_part grounds c.args.room.now = ap (table_part grounds) c.in_ok-table.ensures in
    (c.args.intents.now, ap intents_in c.deref.ensures.value ∙ c.in_ok-entries.ensures grounds ∙ ap (λ (part : RoomPart). in_turn (kept_in part c.args.intents.now)) (sym same))

pub returns-clause-stepped : goal.returns-clause-stepped
returns-clause-stepped c =
    let grounds = c.args.ground.now in
    let list = c.args.intents.now in
    let copy : Table = c.in_ok-table.table in
    let same : table_part grounds copy ≡ table_part grounds c.args.room.now = ap (table_part grounds) c.in_ok-table.ensures in
    IfOk-weaker c.step_entries.result (λ (done : StepDone). (list : List Intent) → intents_in c.deref.result.now ≡ in_turn (kept_in (table_part grounds copy) list) → IsStepped grounds list copy done)
    (IsStepped grounds list c.args.room.now)
    (λ done is. stepped_copy grounds list c.args.room.now copy done same (is list (ap intents_in c.deref.ensures.value ∙ c.in_ok-entries.ensures grounds ∙ ap (λ (part : RoomPart). in_turn (kept_in part list)) (sym same))))
    c.step_entries.ensures.stepped

pub returns-clause-rules : goal.returns-clause-rules
returns-clause-rules c =
    let grounds = c.args.ground.now in
    let copy : Table = c.in_ok-table.table in
    let same : table_part grounds copy ≡ table_part grounds c.args.room.now = ap (table_part grounds) c.in_ok-table.ensures in
    IfOk-weaker c.step_entries.result (λ (done : StepDone). StaysInRules grounds copy done.room) (λ (done : StepDone). StaysInRules grounds c.args.room.now done.room)
    (λ done stays players keeps. stays players (subst (KeepsRoomRules players between) (sym same) keeps)) c.step_entries.ensures.rules

pub returns-clause-memory : goal.returns-clause-memory
returns-clause-memory c =
    let grounds = c.args.ground.now in
    let list = c.args.intents.now in
    let old : Table = c.args.room.now in
    let copy : Table = c.in_ok-table.table in
    let same : table_part grounds copy ≡ table_part grounds old = ap (table_part grounds) c.in_ok-table.ensures in
    let entries = ap intents_in c.deref.ensures.value ∙ c.in_ok-entries.ensures grounds in
    let many = as_many_entries (table_part grounds old) list c.deref.result.now entries in
    let counted = as_many_entries (table_part grounds old) list c.in_ok-entries.entries.items (c.in_ok-entries.ensures grounds) in
    let spare = ap (λ (t : Table). t.spare) c.in_ok-table.ensures in
    let objects : length copy.objects ≡ length old.objects = ap (λ (t : Table). length t.objects) c.in_ok-table.ensures in
    let next : copy.next ≡ old.next = ap (λ (t : Table). t.next) c.in_ok-table.ensures in
    IfOk-weaker c.step_entries.result (λ (done : StepDone). HasAtMost (max copy.spare (wanted_spare (length c.deref.result.now) (length copy.objects))) copy done.room)
    (λ (done : StepDone). HasAtMost (asked_for grounds list old) old done.room)
    (λ done has. omega (arith, has, spare, objects, next, many, counted, c.len.ensures, c.in_ok-entries.entries.ok))
    c.step_entries.ensures.memory
