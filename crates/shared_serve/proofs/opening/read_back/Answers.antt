use Rattle.std.proofs.Common.{◌∙◌, [], inl, inr, ap, sym}
use Rattle.tick_journal.specs.BaseForms.{world_as_read}
use Rattle.tick_journal.specs.Contents.{base_content}
use Rattle.tick_journal.proofs.BaseContents.{as_read_same}
use Rattle.world_replay.proofs.Equal.{same_differ}
use Rattle.world_run.proofs.Opened.{read_journal}
use Rattle.world_run.proofs.RunsLists.{whole_of}
use Rattle.shared_serve.proofs.Begun.{fault_at, journal_there, never_fails, other_untold, same_base_read, same_entries_read, whole_still}
use Rattle.shared_serve.proofs.opening.read_back.Goals as goal

pub returns-in-Ok-same_base-clause-found : goal.returns-in-Ok-same_base-clause-found
returns-in-Ok-same_base-clause-found g c =
    let found = c.in-Ok.ensures.found in
    (found.0, found.1, read_journal _ _ _ _ _ _ c.recover.ensures.alike found.3, same_entries_read (world_as_read c.args.world.now) _ c.in-Ok.found.base found.0 c.requires.begun found.2)

pub returns-in-Ok-same_base-clause-each_moment : goal.returns-in-Ok-same_base-clause-each_moment
returns-in-Ok-same_base-clause-each_moment g c = λ bytes rests.
    let base = world_as_read c.args.world.now in
    c.recover.ensures.each_moment base [] bytes (journal_there base bytes _ rests.read c.requires.begun) rests

pub returns-in-Err-same_base-clause-each_moment : goal.returns-in-Err-same_base-clause-each_moment
returns-in-Err-same_base-clause-each_moment g c = λ bytes rests.
    let base = world_as_read c.args.world.now in
    c.recover.ensures.each_moment base [] bytes (journal_there base bytes _ rests.read c.requires.begun) rests

pub returns-in-Err-DiskFault-clause-each_moment : goal.returns-in-Err-DiskFault-clause-each_moment
returns-in-Err-DiskFault-clause-each_moment g c = λ bytes rests.
    let base = world_as_read c.args.world.now in
    c.recover.ensures.each_moment base [] bytes (journal_there base bytes _ rests.read c.requires.begun) rests

pub returns-in-Err-NotAJournal-clause-each_moment :
    goal.returns-in-Err-NotAJournal-clause-each_moment
returns-in-Err-NotAJournal-clause-each_moment g c = λ bytes rests.
    let base = world_as_read c.args.world.now in
    c.recover.ensures.each_moment base [] bytes (journal_there base bytes _ rests.read c.requires.begun) rests

pub returns-in-Err-clause-each_moment : goal.returns-in-Err-clause-each_moment
returns-in-Err-clause-each_moment g c = λ bytes rests.
    let base = world_as_read c.args.world.now in
    c.recover.ensures.each_moment base [] bytes (journal_there base bytes _ rests.read c.requires.begun) rests

pub returns-in-Err-same_base-clause-told : goal.returns-in-Err-same_base-clause-told
returns-in-Err-same_base-clause-told g c =
    let found = c.in-Ok.ensures.found in
    let base = world_as_read c.args.world.now in
    let other = c.in-Ok.found.base in
    elim c.in-Err-same_base.ensures.only [
      | inl memory ↦ inl memory
      | inr is ↦ inr (inr (other_untold base _ other
          (λ same. same_differ is.0 is.1 is.2 (base_content other) (base_content c.args.world.now) (ap base_content (sym same) ∙ as_read_same c.args.world.now) (c.in-Err-same_base.ensures.other is.0 is.1 is.2 is.3))
          (same_base_read base _ other found.0 c.requires.begun found.2)))
    ]

pub returns-in-Err-same_base-clause-stands : goal.returns-in-Err-same_base-clause-stands
returns-in-Err-same_base-clause-stands g c = λ no_fault.
    let found = c.in-Ok.ensures.found in
    let base = world_as_read c.args.world.now in
    let other = c.in-Ok.found.base in
    whole_still base _ _ other found.0 c.recover.ensures.alike (same_base_read base _ other found.0 c.requires.begun found.2) (same_entries_read base _ other found.0 c.requires.begun found.2)
    (whole_of other found.0 c.in-Ok.found.journal.log.gate _ _ (read_journal _ _ _ _ _ _ c.recover.ensures.alike found.3))

pub returns-in-Err-NotAJournal-clause-told : goal.returns-in-Err-NotAJournal-clause-told
returns-in-Err-NotAJournal-clause-told g c =
    inr (inr (never_fails (world_as_read c.args.world.now) _ _ c.requires.begun (fault_at _ _ _ _ _ c.in-Err-NotAJournal.field-0-is c.in-Err-NotAJournal.ensures.fault)))
