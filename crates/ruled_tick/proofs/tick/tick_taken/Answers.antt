use Rattle.std.proofs.Common.{◌≡◌, ℕ, List, map, ap, refl, sym, subst, ◌∙◌}
use Rattle.intent_book.specs.declared.intent.Intent.{Intent}
use Rattle.kept_entries.specs.Turns.{AreKept}
use Rattle.exit_crossing.specs.declared.leaving.Crosser.{Crosser}
use Rattle.exit_crossing.specs.Crossing.{AreCrossers}
use Rattle.world_rules.specs.World.{world_of}
use Rattle.world_rules.specs.Crossings.{crossed_over}
use Rattle.world_rules.specs.Tick.{book, gained}
use Rattle.ruled_tick.specs.inner.Ticked.{raised_by}
use Rattle.ruled_tick.proofs.Next.{plain-IsRuled, pushed-IsSound, pushed_as, pushed_forgotten, pushed_crossers, pushed_ready, read_gains}
use Rattle.ruled_tick.proofs.tick.tick_taken.Goals as goal

pub push_raised-requires-clause-gains : goal.push_raised-requires-clause-gains
push_raised-requires-clause-gains c =
    let world = c.args.world in
    let kept = c.requires.kept in
    let gain : ℕ → ℕ = gained book (world_of world) kept.0 in
    (gain, read_gains gain c.in_ok-next.accounts.items c.deref.result.now c.in_ok-next.gains.items c.deref-2.result.now c.deref.ensures.value c.deref-2.ensures.value (c.in_ok-next.ensures.gains kept.0 kept.1))

pub cross-requires-clause-crossers : goal.cross-requires-clause-crossers
cross-requires-clause-crossers c =
    let world = c.args.world in
    let entries = c.args.entries.now in
    let tells : List Intent → Type 0 = λ list. AreKept (world_of world) list entries in
    let next = c.in_ok-next.next in
    let crossers : List Crosser = c.in_ok-next.crossers.items in
    let r = c.in_ok-next.ensures.rooms in
    let pushed = c.push_raised.new.next in
    let is : (list : List Intent) → AreKept (world_of world) list entries → pushed ≡ record next { accounts = map (raised_by (gained book (world_of world) list)) world.accounts } = λ list are.
    pushed_as raised_by world next pushed c.in_ok-next.accounts.items c.deref.result.now c.in_ok-next.gains.items c.deref-2.result.now c.deref.ensures.value c.deref-2.ensures.value c.in_ok-next.ensures.accounts c.in_ok-push_raised.ensures
    (gained book (world_of world) list) (c.in_ok-next.ensures.gains list are) in
    let kept = c.requires.kept in
    subst (AreCrossers pushed.rooms) (sym c.deref-3.ensures.value) (pushed_crossers world tells c.requires.sound next crossers r (raised_by (gained book (world_of world) kept.0)) (λ account. refl) pushed (is kept.0 kept.1))

pub cross-requires-clause-ready : goal.cross-requires-clause-ready
cross-requires-clause-ready c =
    let world = c.args.world in
    let entries = c.args.entries.now in
    let tells : List Intent → Type 0 = λ list. AreKept (world_of world) list entries in
    let next = c.in_ok-next.next in
    let crossers : List Crosser = c.in_ok-next.crossers.items in
    let r = c.in_ok-next.ensures.rooms in
    let pushed = c.push_raised.new.next in
    let is : (list : List Intent) → AreKept (world_of world) list entries → pushed ≡ record next { accounts = map (raised_by (gained book (world_of world) list)) world.accounts } = λ list are.
    pushed_as raised_by world next pushed c.in_ok-next.accounts.items c.deref.result.now c.in_ok-next.gains.items c.deref-2.result.now c.deref.ensures.value c.deref-2.ensures.value c.in_ok-next.ensures.accounts c.in_ok-push_raised.ensures
    (gained book (world_of world) list) (c.in_ok-next.ensures.gains list are) in
    let kept = c.requires.kept in
    pushed_ready world tells c.requires.sound next crossers r (raised_by (gained book (world_of world) kept.0)) (λ account. refl) pushed (is kept.0 kept.1)

pub returns-clause-sound : goal.returns-clause-sound
returns-clause-sound c =
    let world = c.args.world in
    let entries = c.args.entries.now in
    let tells : List Intent → Type 0 = λ list. AreKept (world_of world) list entries in
    let next = c.in_ok-next.next in
    let crossers : List Crosser = c.in_ok-next.crossers.items in
    let r = c.in_ok-next.ensures.rooms in
    let pushed = c.push_raised.new.next in
    let is : (list : List Intent) → AreKept (world_of world) list entries → pushed ≡ record next { accounts = map (raised_by (gained book (world_of world) list)) world.accounts } = λ list are.
    pushed_as raised_by world next pushed c.in_ok-next.accounts.items c.deref.result.now c.in_ok-next.gains.items c.deref-2.result.now c.deref.ensures.value c.deref-2.ensures.value c.in_ok-next.ensures.accounts c.in_ok-push_raised.ensures
    (gained book (world_of world) list) (c.in_ok-next.ensures.gains list are) in
    let kept = c.requires.kept in
    c.cross.ensures.sound (pushed-IsSound world tells c.requires.sound next crossers r (raised_by (gained book (world_of world) kept.0)) (λ account. refl) pushed (is kept.0 kept.1))

pub returns-clause-forgotten : goal.returns-clause-forgotten
returns-clause-forgotten c =
    let world = c.args.world in
    let entries = c.args.entries.now in
    let tells : List Intent → Type 0 = λ list. AreKept (world_of world) list entries in
    let next = c.in_ok-next.next in
    let crossers : List Crosser = c.in_ok-next.crossers.items in
    let r = c.in_ok-next.ensures.rooms in
    let pushed = c.push_raised.new.next in
    let is : (list : List Intent) → AreKept (world_of world) list entries → pushed ≡ record next { accounts = map (raised_by (gained book (world_of world) list)) world.accounts } = λ list are.
    pushed_as raised_by world next pushed c.in_ok-next.accounts.items c.deref.result.now c.in_ok-next.gains.items c.deref-2.result.now c.deref.ensures.value c.deref-2.ensures.value c.in_ok-next.ensures.accounts c.in_ok-push_raised.ensures
    (gained book (world_of world) list) (c.in_ok-next.ensures.gains list are) in
    let kept = c.requires.kept in
    c.cross.ensures.forgotten (pushed_forgotten world tells c.requires.sound next crossers r (raised_by (gained book (world_of world) kept.0)) (λ account. refl) pushed (is kept.0 kept.1))

pub returns-clause-ruled : goal.returns-clause-ruled
returns-clause-ruled c =
    let world = c.args.world in
    let entries = c.args.entries.now in
    let tells : List Intent → Type 0 = λ list. AreKept (world_of world) list entries in
    let next = c.in_ok-next.next in
    let crossers : List Crosser = c.in_ok-next.crossers.items in
    let r = c.in_ok-next.ensures.rooms in
    let pushed = c.push_raised.new.next in
    let is : (list : List Intent) → AreKept (world_of world) list entries → pushed ≡ record next { accounts = map (raised_by (gained book (world_of world) list)) world.accounts } = λ list are.
    pushed_as raised_by world next pushed c.in_ok-next.accounts.items c.deref.result.now c.in_ok-next.gains.items c.deref-2.result.now c.deref.ensures.value c.deref-2.ensures.value c.in_ok-next.ensures.accounts c.in_ok-push_raised.ensures
    (gained book (world_of world) list) (c.in_ok-next.ensures.gains list are) in
    λ list are. plain-IsRuled world tells c.requires.sound next crossers r pushed c.cross.new.world list (is list are) (c.cross.ensures.crossed ∙ ap (λ (list : List Crosser). crossed_over (map (λ (crosser : Crosser). crosser.id) list) (world_of pushed)) c.deref-3.ensures.value) are
