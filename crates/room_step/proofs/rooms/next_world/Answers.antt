use Rattle.std.proofs.Common.{◌≡◌, ℕ, List, map, ap, sym, subst, ◌∙◌}
use Rattle.intent_book.specs.declared.intent.Intent.{Intent}
use Rattle.object_store.specs.Stored.{Stored}
use Rattle.world_rules.specs.World.{world_of}
use Rattle.world_rules.specs.Crossings.{crossed_over}
use Rattle.world_rules.specs.Tick.{book, gained, intents_of}
use Rattle.exit_crossing.specs.declared.leaving.Crosser.{Crosser}
use Rattle.exit_crossing.specs.Crossing.{AreCrossers}
use Rattle.ruled_tick.proofs.Next.{many, pushed-IsSound, pushed_as, pushed_forgotten, pushed_crossers, pushed_ready, read_gains}
use Rattle.room_step.specs.declared.rooms.Underway.{Underway}
use Rattle.room_step.specs.inner.Rooms.{accounted}
use Rattle.room_step.proofs.Accounted.{accounted-player}
use Rattle.room_step.proofs.Next.{next_is, scheduled}
use Rattle.room_step.proofs.rooms.next_world.Goals as goal

pub push_accounted-requires-clause-gains : goal.push_accounted-requires-clause-gains
push_accounted-requires-clause-gains g c =
    let gain : ℕ → ℕ = gained book (world_of c.args.world) (intents_of c.args.runs.now) in
    (gain, read_gains gain c.in_ok-stepped.accounts.items c.deref.result.now c.in_ok-stepped.stepped.gains.items c.deref-2.result.now c.deref.ensures.value c.deref-2.ensures.value (c.in_ok-stepped.ensures.gains (intents_of c.args.runs.now) c.requires.split))

pub push_accounted-requires-clause-none : goal.push_accounted-requires-clause-none
push_accounted-requires-clause-none g c = ap (λ (s : Stored). s.accounts) (c.in_ok-stepped.ensures.rooms (intents_of c.args.runs.now) c.requires.split).next

pub cross-requires-clause-crossers : goal.cross-requires-clause-crossers
cross-requires-clause-crossers g c =
    let world = c.args.world in
    let runs = c.args.runs.now in
    let list : List Intent = intents_of runs in
    let stepped : Underway = c.in_ok-stepped.stepped in
    let crossers : List Crosser = stepped.crossers.items in
    let r = c.in_ok-stepped.ensures.rooms list c.requires.split in
    let gain : ℕ → ℕ = gained book (world_of world) list in
    let pushed = c.push_accounted.new.next in
    let is : pushed ≡ record stepped.world { accounts = map (accounted gain runs) world.accounts } =
    pushed_as (λ (gain : ℕ → ℕ). accounted gain runs) world stepped.world pushed c.in_ok-stepped.accounts.items c.deref.result.now stepped.gains.items c.deref-2.result.now c.deref.ensures.value c.deref-2.ensures.value c.in_ok-stepped.ensures.accounts c.in_ok-push_accounted.ensures
    gain (c.in_ok-stepped.ensures.gains list c.requires.split) in
    subst (AreCrossers pushed.rooms) (sym c.deref-3.ensures.value) (pushed_crossers world (λ intents. intents ≡ list) c.requires.sound stepped.world crossers r (accounted gain runs) (accounted-player gain runs) pushed is)

pub cross-requires-clause-ready : goal.cross-requires-clause-ready
cross-requires-clause-ready g c =
    let world = c.args.world in
    let runs = c.args.runs.now in
    let list : List Intent = intents_of runs in
    let stepped : Underway = c.in_ok-stepped.stepped in
    let crossers : List Crosser = stepped.crossers.items in
    let r = c.in_ok-stepped.ensures.rooms list c.requires.split in
    let gain : ℕ → ℕ = gained book (world_of world) list in
    let pushed = c.push_accounted.new.next in
    let is : pushed ≡ record stepped.world { accounts = map (accounted gain runs) world.accounts } =
    pushed_as (λ (gain : ℕ → ℕ). accounted gain runs) world stepped.world pushed c.in_ok-stepped.accounts.items c.deref.result.now stepped.gains.items c.deref-2.result.now c.deref.ensures.value c.deref-2.ensures.value c.in_ok-stepped.ensures.accounts c.in_ok-push_accounted.ensures
    gain (c.in_ok-stepped.ensures.gains list c.requires.split) in
    pushed_ready world (λ intents. intents ≡ list) c.requires.sound stepped.world crossers r (accounted gain runs) (accounted-player gain runs) pushed is

pub returns-clause-next : goal.returns-clause-next
returns-clause-next g c =
    let world = c.args.world in
    let runs = c.args.runs.now in
    let list : List Intent = intents_of runs in
    let stepped : Underway = c.in_ok-stepped.stepped in
    let crossers : List Crosser = stepped.crossers.items in
    let r = c.in_ok-stepped.ensures.rooms list c.requires.split in
    let gain : ℕ → ℕ = gained book (world_of world) list in
    let pushed = c.push_accounted.new.next in
    let is : pushed ≡ record stepped.world { accounts = map (accounted gain runs) world.accounts } =
    pushed_as (λ (gain : ℕ → ℕ). accounted gain runs) world stepped.world pushed c.in_ok-stepped.accounts.items c.deref.result.now stepped.gains.items c.deref-2.result.now c.deref.ensures.value c.deref-2.ensures.value c.in_ok-stepped.ensures.accounts c.in_ok-push_accounted.ensures
    gain (c.in_ok-stepped.ensures.gains list c.requires.split) in
    let crossing : world_of c.cross.new.world ≡ crossed_over (map (λ (crosser : Crosser). crosser.id) crossers) (world_of pushed) =
    c.cross.ensures.crossed ∙ ap (λ (list : List Crosser). crossed_over (map (λ (crosser : Crosser). crosser.id) list) (world_of pushed)) c.deref-3.ensures.value in
    next_is world c.requires.sound runs stepped.world crossers r pushed c.cross.new.world is crossing

pub returns-clause-scheduled : goal.returns-clause-scheduled
returns-clause-scheduled g c =
    let world = c.args.world in
    let runs = c.args.runs.now in
    let list : List Intent = intents_of runs in
    let stepped : Underway = c.in_ok-stepped.stepped in
    let crossers : List Crosser = stepped.crossers.items in
    let r = c.in_ok-stepped.ensures.rooms list c.requires.split in
    let gain : ℕ → ℕ = gained book (world_of world) list in
    let pushed = c.push_accounted.new.next in
    let is : pushed ≡ record stepped.world { accounts = map (accounted gain runs) world.accounts } =
    pushed_as (λ (gain : ℕ → ℕ). accounted gain runs) world stepped.world pushed c.in_ok-stepped.accounts.items c.deref.result.now stepped.gains.items c.deref-2.result.now c.deref.ensures.value c.deref-2.ensures.value c.in_ok-stepped.ensures.accounts c.in_ok-push_accounted.ensures
    gain (c.in_ok-stepped.ensures.gains list c.requires.split) in
    let crossing : world_of c.cross.new.world ≡ crossed_over (map (λ (crosser : Crosser). crosser.id) crossers) (world_of pushed) =
    c.cross.ensures.crossed ∙ ap (λ (list : List Crosser). crossed_over (map (λ (crosser : Crosser). crosser.id) list) (world_of pushed)) c.deref-3.ensures.value in
    scheduled world c.requires.sound runs stepped.world crossers r pushed c.cross.new.world is crossing

pub returns-clause-sound : goal.returns-clause-sound
returns-clause-sound g c =
    let world = c.args.world in
    let runs = c.args.runs.now in
    let list : List Intent = intents_of runs in
    let stepped : Underway = c.in_ok-stepped.stepped in
    let crossers : List Crosser = stepped.crossers.items in
    let r = c.in_ok-stepped.ensures.rooms list c.requires.split in
    let gain : ℕ → ℕ = gained book (world_of world) list in
    let pushed = c.push_accounted.new.next in
    let is : pushed ≡ record stepped.world { accounts = map (accounted gain runs) world.accounts } =
    pushed_as (λ (gain : ℕ → ℕ). accounted gain runs) world stepped.world pushed c.in_ok-stepped.accounts.items c.deref.result.now stepped.gains.items c.deref-2.result.now c.deref.ensures.value c.deref-2.ensures.value c.in_ok-stepped.ensures.accounts c.in_ok-push_accounted.ensures
    gain (c.in_ok-stepped.ensures.gains list c.requires.split) in
    c.cross.ensures.sound (pushed-IsSound world (λ intents. intents ≡ list) c.requires.sound stepped.world crossers r (accounted gain runs) (accounted-player gain runs) pushed is)

pub returns-clause-forgotten : goal.returns-clause-forgotten
returns-clause-forgotten g c =
    let world = c.args.world in
    let runs = c.args.runs.now in
    let list : List Intent = intents_of runs in
    let stepped : Underway = c.in_ok-stepped.stepped in
    let crossers : List Crosser = stepped.crossers.items in
    let r = c.in_ok-stepped.ensures.rooms list c.requires.split in
    let gain : ℕ → ℕ = gained book (world_of world) list in
    let pushed = c.push_accounted.new.next in
    let is : pushed ≡ record stepped.world { accounts = map (accounted gain runs) world.accounts } =
    pushed_as (λ (gain : ℕ → ℕ). accounted gain runs) world stepped.world pushed c.in_ok-stepped.accounts.items c.deref.result.now stepped.gains.items c.deref-2.result.now c.deref.ensures.value c.deref-2.ensures.value c.in_ok-stepped.ensures.accounts c.in_ok-push_accounted.ensures
    gain (c.in_ok-stepped.ensures.gains list c.requires.split) in
    c.cross.ensures.forgotten (pushed_forgotten world (λ intents. intents ≡ list) c.requires.sound stepped.world crossers r (accounted gain runs) (accounted-player gain runs) pushed is)

pub returns-clause-accounts : goal.returns-clause-accounts
returns-clause-accounts g c =
    let world = c.args.world in
    let runs = c.args.runs.now in
    let list : List Intent = intents_of runs in
    let stepped : Underway = c.in_ok-stepped.stepped in
    let crossers : List Crosser = stepped.crossers.items in
    let r = c.in_ok-stepped.ensures.rooms list c.requires.split in
    let gain : ℕ → ℕ = gained book (world_of world) list in
    let pushed = c.push_accounted.new.next in
    let is : pushed ≡ record stepped.world { accounts = map (accounted gain runs) world.accounts } =
    pushed_as (λ (gain : ℕ → ℕ). accounted gain runs) world stepped.world pushed c.in_ok-stepped.accounts.items c.deref.result.now stepped.gains.items c.deref-2.result.now c.deref.ensures.value c.deref-2.ensures.value c.in_ok-stepped.ensures.accounts c.in_ok-push_accounted.ensures
    gain (c.in_ok-stepped.ensures.gains list c.requires.split) in
    c.cross.ensures.frames.accounts ∙ ap (λ (s : Stored). s.accounts) is

pub returns-clause-rooms : goal.returns-clause-rooms
returns-clause-rooms g c =
    let world = c.args.world in
    let runs = c.args.runs.now in
    let list : List Intent = intents_of runs in
    let stepped : Underway = c.in_ok-stepped.stepped in
    let crossers : List Crosser = stepped.crossers.items in
    let r = c.in_ok-stepped.ensures.rooms list c.requires.split in
    let gain : ℕ → ℕ = gained book (world_of world) list in
    let pushed = c.push_accounted.new.next in
    let is : pushed ≡ record stepped.world { accounts = map (accounted gain runs) world.accounts } =
    pushed_as (λ (gain : ℕ → ℕ). accounted gain runs) world stepped.world pushed c.in_ok-stepped.accounts.items c.deref.result.now stepped.gains.items c.deref-2.result.now c.deref.ensures.value c.deref-2.ensures.value c.in_ok-stepped.ensures.accounts c.in_ok-push_accounted.ensures
    gain (c.in_ok-stepped.ensures.gains list c.requires.split) in
    let crossing : world_of c.cross.new.world ≡ crossed_over (map (λ (crosser : Crosser). crosser.id) crossers) (world_of pushed) =
    c.cross.ensures.crossed ∙ ap (λ (list : List Crosser). crossed_over (map (λ (crosser : Crosser). crosser.id) list) (world_of pushed)) c.deref-3.ensures.value in
    many world (λ intents. intents ≡ list) c.requires.sound stepped.world crossers r (accounted gain runs) (accounted-player gain runs) pushed is c.cross.new.world crossing c.cross.ensures.frames
