use Rattle.std.proofs.Common.{◌≡◌, ◌∙◌, inl, inr, ap, sym}
use Rattle.tick_journal.specs.BaseForms.{world_as_read}
use Rattle.tick_journal.specs.Contents.{base_content}
use Rattle.tick_journal.proofs.BaseContents.{as_read_same}
use Rattle.world_replay.proofs.Equal.{same_differ}
use Rattle.world_run.proofs.Opened.{kept_there, other_world, some_other}
use Rattle.frame_log.specs.Frames.{IsEmpty}
use Rattle.world_io.proofs.Moments.{since_trans, since_weaken}
use Rattle.world_journal.specs.declared.fault.RecoverFault.{RecoverFault}
use Rattle.world_journal.specs.declared.fault.RecoverFault.TheVariants.{DiskFault, Empty}
use Rattle.world_run.proofs.Crashes.{base_opening, kept_opening, rests_there}
use Rattle.shared_serve.proofs.Begun.{fault_empty}
use Rattle.shared_serve.proofs.opening.open_served.Goals as goal

not_fault : (e : RecoverFault) → e ≡ Empty → e ≡ DiskFault → ⊥
not_fault e is other = cc

pub returns-in-Err-clause-other : goal.returns-in-Err-clause-other
returns-in-Err-clause-other g c = λ at one given is.
    some_other _ c.in-Ok.found.base c.in-Ok.ensures.found.0 at one given c.args.world.now c.in-Ok.ensures.found.2 (c.in-Err.ensures.other at one given is)

pub returns-in-Err-clause-kept : goal.returns-in-Err-clause-kept
returns-in-Err-clause-kept g c = λ at one given is.
    let found = c.in-Ok.ensures.found in
    kept_there _ _ _ c.in-Ok.found.base found.0 c.in-Ok.found.journal.log.gate c.recover.ensures.alike found.2 found.3

pub returns-in-Err-clause-memory : goal.returns-in-Err-clause-memory
returns-in-Err-clause-memory g c = λ is.
    let found = c.in-Ok.ensures.found in
    inl (kept_there _ _ _ c.in-Ok.found.base found.0 c.in-Ok.found.journal.log.gate c.recover.ensures.alike found.2 found.3)

pub returns-in-Err-clause-right : goal.returns-in-Err-clause-right
returns-in-Err-clause-right g c = λ entries bytes told stood fine.
    let found = c.in-Ok.ensures.found in
    let law = c.bytes_stand_for_one_journal.ensures in
    let base = world_as_read c.args.world.now in
    let other = c.in-Ok.found.base in
    elim c.in-Err.ensures.only [
      | inl memory ↦ memory
      | inr is ↦ (let same : base ≡ other = other_world _ bytes base other entries found.0 told stood found.2 (λ j e. law.some bytes other found.0 j e) (λ one two. (law.one bytes base other entries found.0 one two).0) in absurd (same_differ is.0 is.1 is.2 (base_content other) (base_content c.args.world.now) (ap base_content (sym same) ∙ as_read_same c.args.world.now) (c.in-Err.ensures.other is.0 is.1 is.2 is.3)))
    ]

pub returns-in-Ok-same_base-clause-opening : goal.returns-in-Ok-same_base-clause-opening
returns-in-Ok-same_base-clause-opening g c = λ bytes rests base entries stood. since_weaken (kept_opening c.args.world.now bytes base entries stood) (c.recover.ensures.kept bytes rests)

pub returns-in-Err-clause-opening : goal.returns-in-Err-clause-opening
returns-in-Err-clause-opening g c = λ bytes rests base entries stood. since_weaken (kept_opening c.args.world.now bytes base entries stood) (c.recover.ensures.kept bytes rests)

pub returns-in-Err-DiskFault-clause-opening : goal.returns-in-Err-DiskFault-clause-opening
returns-in-Err-DiskFault-clause-opening g c = λ bytes rests base entries stood. since_weaken (kept_opening c.args.world.now bytes base entries stood) (c.recover.ensures.kept bytes rests)

pub returns-in-Err-NotAJournal-clause-opening : goal.returns-in-Err-NotAJournal-clause-opening
returns-in-Err-NotAJournal-clause-opening g c = λ bytes rests base entries stood. since_weaken (kept_opening c.args.world.now bytes base entries stood) (c.recover.ensures.kept bytes rests)

pub returns-in-Err-Memory-clause-opening : goal.returns-in-Err-Memory-clause-opening
returns-in-Err-Memory-clause-opening g c = λ bytes rests base entries stood. since_weaken (kept_opening c.args.world.now bytes base entries stood) (c.recover.ensures.kept bytes rests)

pub returns-in-Ok-begin-clause-opening : goal.returns-in-Ok-begin-clause-opening
returns-in-Ok-begin-clause-opening g c = λ bytes rests base entries stood.
    let is = c.in-Err-Empty.field-0-is in
    let same = c.in-Err-Empty.ensures.unchanged (λ other. not_fault _ is other) in
    let none : IsEmpty bytes = rw rests.read at (fault_empty _ _ _ _ is c.in-Err-Empty.ensures.fault) in
    let there = rests_there bytes _ _ _ _ same.0 same.1 rests in
    since_trans (since_weaken (kept_opening c.args.world.now bytes base entries stood) (c.recover.ensures.kept bytes rests))
    (since_weaken (base_opening c.args.world.now bytes base entries stood none) (c.begin.ensures.opening bytes none there))

pub returns-in-Err-begin-clause-opening : goal.returns-in-Err-begin-clause-opening
returns-in-Err-begin-clause-opening g c = λ bytes rests base entries stood.
    let is = c.in-Err-Empty.field-0-is in
    let same = c.in-Err-Empty.ensures.unchanged (λ other. not_fault _ is other) in
    let none : IsEmpty bytes = rw rests.read at (fault_empty _ _ _ _ is c.in-Err-Empty.ensures.fault) in
    let there = rests_there bytes _ _ _ _ same.0 same.1 rests in
    since_trans (since_weaken (kept_opening c.args.world.now bytes base entries stood) (c.recover.ensures.kept bytes rests))
    (since_weaken (base_opening c.args.world.now bytes base entries stood none) (c.begin.ensures.opening bytes none there))
