use Rattle.std.proofs.Common.{IfSome, refl, subst}
use Rattle.object_store.specs.Stored.{Stored}
use Rattle.served_ticks.specs.Serving as ticks_of
use Rattle.world_journal.specs.Journals.{HasJournal, IsWholeJournal}
use Rattle.world_run.proofs.RunsLists.{whole_of}
use Rattle.shared_serve.specs.inner.Ticks.{ServesFound, ServesTicks}
use Rattle.shared_serve.proofs.Begun.{log_rests}
use Rattle.shared_serve.proofs.Ending.{are_serve, of_memory, of_opening, of_ticks, of_world}
use Rattle.shared_serve.proofs.serve.serve_shared.Goals as goal

pub returns-in-Err-load_world : goal.returns-in-Err-load_world
returns-in-Err-load_world g c =
    let end = c.in-Err-load_world.ensures in
    of_world _ _ _ (are_serve _ c.in-Ok.asked.ticks c.in-Ok.ensures.serve) refl c.in-Err-load_world.status (g.met.D.Disk.left_now c.args.disk.now) c.requires refl refl end.only end.refused end.fault end.complete end.steady_else c.load_world.ensures.later

pub returns-in-Err-open_served : goal.returns-in-Err-open_served
returns-in-Err-open_served g c =
    let file = c.in-Ok-load_world.ensures in
    let end = c.in-Err-open_served.ensures in
    of_opening _ _ _ c.in-Ok-load_world.file.world file.starts.hosted.sound c.in-Ok.asked.ticks c.in-Ok.ensures.serve file.found file.steady c.in-Err-open_served.status (g.met.D.Disk.left_now c.open_served.new.disk)
    c.open_served.ensures.opening end.rests end.only end.not_a_journal end.other end.kept end.memory end.right end.disk_fault end.steady_else c.open_served.ensures.later

pub returns : goal.returns
returns g c =
    let file = c.in-Ok-load_world.ensures in
    let open_ = c.in-Ok-open_served.ensures in
    let from = c.in-Ok-open_served.from in
    let found = open_.found in
    let seen = g.D.Disk.seen c.open_served.new.disk in
    let moments = g.D.Disk.moments c.open_served.new.disk in
    of_memory _ _ _ c.in-Ok-load_world.file.world file.starts.hosted.sound c.in-Ok.asked.ticks c.in-Ok.ensures.serve file.found file.steady (g.met.D.Disk.left_now c.open_served.new.disk)
    c.open_served.ensures.opening (log_rests from.journal.log.gate seen moments open_.log) found.0 found.2
    (subst (λ (b : Stored). IfSome seen (IsWholeJournal b found.0)) open_.same (whole_of from.base found.0 from.journal.log.gate seen moments found.3)) open_.steady

pub returns-in-Ok-prepare : goal.returns-in-Ok-prepare
unfolding ServesFound ServesTicks
returns-in-Ok-prepare g c =
    let file = c.in-Ok-load_world.ensures in
    let open_ = c.in-Ok-open_served.ensures in
    let from = c.in-Ok-open_served.from in
    let found = open_.found in
    let gate = from.journal.log.gate in
    let seen = g.D.Disk.seen c.open_served.new.disk in
    let moments = g.D.Disk.moments c.open_served.new.disk in
    let faults = g.D.Disk.faults c.open_served.new.disk in
    let after = c.serve_prepared.new.disk in
    let status = c.serve_prepared.result in
    let served = c.serve_prepared.ensures found.0 found.1 found.3 in
    let made = subst (λ (b : Stored). ticks_of.Serves b found.0 gate c.in-Ok.asked.ticks (record { disk = seen; moments = moments; faults = faults; hand = served.0; sight = served.2 })
    (record { disk = g.D.Disk.seen after; moments = g.D.Disk.moments after; faults = g.D.Disk.faults after; hand = served.1; sight = served.3 }) status) open_.same served.4 in
    of_ticks _ _ _ c.in-Ok-load_world.file.world file.starts.hosted.sound c.in-Ok.asked.ticks c.in-Ok.ensures.serve file.found file.steady found.0 gate seen moments faults served.0 served.1 served.2 served.3 found.2 open_.steady
    (g.met.D.Disk.left_now after) (subst (λ (b : Stored). IfSome seen (λ bytes. HasJournal b found.0 gate seen moments)) open_.same found.3) c.open_served.ensures.alike c.open_served.ensures.opening status made
