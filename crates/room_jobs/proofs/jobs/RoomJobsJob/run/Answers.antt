use Rattle.std.proofs.Common.{◌≡◌, List, length, get_or, Some, slice_get, sym, ap, subst, ◌∙◌, arith}
use Rattle.std.proofs.lemmas.Result.{IfOk-weaker}
use Rattle.std.proofs.lemmas.Option.{slice_get-get_or}
use Rattle.intent_book.specs.declared.intent.Intent.{Intent}
use Rattle.object_store.specs.declared.world.Room.{Room}
use Rattle.room_step.specs.Steps.{list_at}
use Rattle.room_step.specs.Stepping.{IsStepped}
use Rattle.room_step.proofs.Whole.{read_list}
use Rattle.room_jobs.specs.RoomJobs.{IsStepDone}
use Rattle.room_jobs.proofs.jobs.RoomJobsJob.run.Goals as goal

pub step_room-requires-clause-rules : goal.step_room-requires-clause-rules
step_room-requires-clause-rules c =
    let jobs = c.args.self.now in
    let at = slice_get-get_or jobs.rooms.now c.args.k c.index-self-k.result (omega (arith, c.requires, jobs.counted)) in
    (jobs.may.each c.args.k (get_or jobs.rooms.now c.args.k c.index-self-k.result) at).rules

pub step_room-requires-clause-serials : goal.step_room-requires-clause-serials
step_room-requires-clause-serials c =
    let jobs = c.args.self.now in
    let at = slice_get-get_or jobs.rooms.now c.args.k c.index-self-k.result (omega (arith, c.requires, jobs.counted)) in
    (jobs.may.each c.args.k (get_or jobs.rooms.now c.args.k c.index-self-k.result) at).serials

pub step_room-requires-clause-few : goal.step_room-requires-clause-few
step_room-requires-clause-few c =
    let jobs = c.args.self.now in
    let at = slice_get-get_or jobs.rooms.now c.args.k c.index-self-k.result (omega (arith, c.requires, jobs.counted)) in
    let own : c.as_slice.result.now ≡ list_at jobs.lists.now c.args.k =
    c.as_slice.ensures ∙ read_list jobs.lists.now c.args.k c.index-self-k-2.result (omega (arith, c.requires, jobs.counted, jobs.may.many)) in
    let few = (jobs.may.each c.args.k (get_or jobs.rooms.now c.args.k c.index-self-k.result) at).few in
    omega (arith, few, ap length own)

pub returns : goal.returns
returns c =
    let jobs = c.args.self.now in
    let room : Room = get_or jobs.rooms.now c.args.k c.index-self-k.result in
    let at : slice_get jobs.rooms.now c.args.k ≡ Some room = slice_get-get_or jobs.rooms.now c.args.k c.index-self-k.result (omega (arith, c.requires, jobs.counted)) in
    let own : c.as_slice.result.now ≡ list_at jobs.lists.now c.args.k =
    c.as_slice.ensures ∙ read_list jobs.lists.now c.args.k c.index-self-k-2.result (omega (arith, c.requires, jobs.counted, jobs.may.many)) in
    IfOk-weaker c.step_room.result (IsStepped room.terrain c.as_slice.result.now room.table) (IsStepDone jobs.rooms.now jobs.lists.now c.args.k) (λ done stepped other there.
    let twice : Some other ≡ Some room = sym there ∙ at in
    let same : other ≡ room = cc in
    subst (λ (r : Room). IsStepped r.terrain (list_at jobs.lists.now c.args.k) r.table done) (sym same)
    (subst (λ (entries : List Intent). IsStepped room.terrain entries room.table done) own stepped)) c.step_room.ensures.stepped
