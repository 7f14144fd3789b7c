use Rattle.std.proofs.Common.{◌∙◌, ◌∷◌, ◌++◌, [], sym, subst, refl, List, ℕ, Option}
use Rattle.world_io.specs.Moments.{LeavesSince, Moment, Rests}
use Rattle.tick_journal.specs.declared.entries.UploadEntry.{UploadEntry}
use Rattle.world_journal.specs.Journals.{IsJournal, IsKeptOrCut, IsQuiet}
use Rattle.world_journal.specs.inner.Uploads.{HasUploaded, uploads_in}
use Rattle.world_journal.specs.Walking.{HasEnded}
use Rattle.world_journal.proofs.Modules.{uploads_more}
use Rattle.world_journal.proofs.Readings.{reading_end, reading_more, walked_now}
use Rattle.world_journal.proofs.Recoveries.{cut_kept, cut_moments, quiet_closed, quiet_journal, read_kept, recovered_from, unmoved}
use Rattle.world_journal.proofs.journal.Journal.recover.Goals as goal

pub returns-in_err-walk-clause-each_moment : goal.returns-in_err-walk-clause-each_moment
returns-in_err-walk-clause-each_moment g c = λ base entries bytes is rests. unmoved (IsJournal base entries) _ _ c.in_err-walk.ensures.reads.crash

pub returns-in_err-base-clause-each_moment : goal.returns-in_err-base-clause-each_moment
returns-in_err-base-clause-each_moment g c = λ base entries bytes is rests. unmoved (IsJournal base entries) _ _ c.in_ok-walk.ensures.reads.crash

pub returns-in_err-uploaded-clause-each_moment : goal.returns-in_err-uploaded-clause-each_moment
returns-in_err-uploaded-clause-each_moment g c = λ base entries bytes is rests. unmoved (IsJournal base entries) _ _ c.in_ok-walk.ensures.reads.crash

pub returns-in_err-entry-clause-each_moment : goal.returns-in_err-entry-clause-each_moment
returns-in_err-entry-clause-each_moment g c = λ base entries bytes is rests. unmoved (IsJournal base entries) _ _ (c.in_err-entry.ensures.reads.crash ∙ c.each.invariant.1.crash)

pub returns-in_err-add_all-clause-each_moment : goal.returns-in_err-add_all-clause-each_moment
returns-in_err-add_all-clause-each_moment g c = λ base entries bytes is rests. unmoved (IsJournal base entries) _ _ (c.in_ok-entry.ensures.reads.crash ∙ c.each.invariant.1.crash)

pub each-preserved : goal.each-preserved
each-preserved g c =
    let base = c.in_ok-walk.walk.world in
    let entries = c.each.invariant.0 in
    let reading = c.each.invariant.1 in
    let told = c.in_ok-entry.ensures in
    let next = reading_more reading c.next.new.self c.in_ok-entry.field-0 c.in-Some.entry _ _ _ c.in-Some.is (told.stepped base entries (walked_now reading)) told.length told.reads.same told.reads.crash told.reads.steady in (
      entries ++ c.in-Some.entry ∷ [],
      next,
      subst (λ (l : List UploadEntry). HasUploaded base.accounts l c.add_all.new.self) (sym (uploads_more entries c.in-Some.entry)) (c.in_ok-add_all.ensures.added base.accounts (uploads_in entries) c.each.invariant.2),
      c.in_ok-add_all.ensures.rising,
    )

pub open-requires-clause-closed : goal.open-requires-clause-closed
open-requires-clause-closed g c =
    let reading = c.each.invariant.1 in
    let reads = c.in_ok-entry.ensures.reads in
    let stepped = rw c.in_default.is at (c.in_ok-entry.ensures.stepped c.in_ok-walk.walk.world c.each.invariant.0 (walked_now reading)) in
    rw (reads.same, reads.crash) (quiet_closed stepped _ (rw (← reading.same, ← reading.crash) at c.requires))

pub returns-in_err-log-clause-each_moment : goal.returns-in_err-log-clause-each_moment
returns-in_err-log-clause-each_moment g c =
    let base = c.in_ok-walk.walk.world in
    let entries = c.each.invariant.0 in
    let reading = c.each.invariant.1 in
    let reads = c.in_ok-entry.ensures.reads in
    let stepped = rw c.in_default.is at (c.in_ok-entry.ensures.stepped base entries (walked_now reading)) in
    let ended = subst (HasEnded base entries c.next.new.self) (sym reads.same) stepped in
    let seen_is = reads.same ∙ reading.same in
    let crash_is = reads.crash ∙ reading.crash in
    λ other others bytes is rests.
    let there = subst (λ (s : Option (List ℕ)). Rests bytes s (g.D.Disk.moments c.next.new.disk)) (sym seen_is) (subst (λ (m : List Moment). Rests bytes (g.D.Disk.seen c.args.disk.now) m) (sym crash_is) rests) in
    subst (λ (m : List Moment). LeavesSince (IsJournal other others) m (g.D.Disk.moments c.open.new.disk)) crash_is (cut_moments ended _ (g.D.Disk.moments c.open.new.disk) c.open.ensures.each_moment other others bytes is there)

pub returns-clause-found : goal.returns-clause-found
returns-clause-found g c =
    let base = c.in_ok-walk.walk.world in
    let entries = c.each.invariant.0 in
    let reading = c.each.invariant.1 in
    let reads = c.in_ok-entry.ensures.reads in
    let stepped = rw c.in_default.is at (c.in_ok-entry.ensures.stepped base entries (walked_now reading)) in
    let ended = subst (HasEnded base entries c.next.new.self) (sym reads.same) stepped in
    let seen_is = reads.same ∙ reading.same in
    let crash_is = reads.crash ∙ reading.crash in
    let whole = reading_end reading c.next.new.self c.in_ok-entry.field-0 c.in_default.is (c.in_ok-entry.ensures.stepped base entries (walked_now reading)) in
    let quiet = subst (λ (s : Option (List ℕ)). IsQuiet s (g.D.Disk.moments c.next.new.disk)) (sym seen_is) (subst (λ (m : List Moment). IsQuiet (g.D.Disk.seen c.args.disk.now) m) (sym crash_is) c.requires) in
    let now = quiet_journal ended _ (g.D.Disk.seen c.open.new.disk) (g.D.Disk.moments c.open.new.disk) quiet c.in_ok-log.ensures.done in (
      entries,
      rw c.into_world.ensures (recovered_from base entries c.next.new.self _ c.each.uploaded _ ended.walked c.each.invariant.2 c.in_ok-base.ensures refl refl c.from_vec.ensures),
      rw c.in_ok-base.ensures whole.journal,
      rw (c.in_ok-base.ensures, c.in_ok-log.ensures.gate, ← seen_is) now,
    )

pub returns-clause-each_moment : goal.returns-clause-each_moment
returns-clause-each_moment g c =
    let base = c.in_ok-walk.walk.world in
    let entries = c.each.invariant.0 in
    let reading = c.each.invariant.1 in
    let reads = c.in_ok-entry.ensures.reads in
    let stepped = rw c.in_default.is at (c.in_ok-entry.ensures.stepped base entries (walked_now reading)) in
    let ended = subst (HasEnded base entries c.next.new.self) (sym reads.same) stepped in
    let seen_is = reads.same ∙ reading.same in
    let crash_is = reads.crash ∙ reading.crash in
    λ other others bytes is rests.
    let there = subst (λ (s : Option (List ℕ)). Rests bytes s (g.D.Disk.moments c.next.new.disk)) (sym seen_is) (subst (λ (m : List Moment). Rests bytes (g.D.Disk.seen c.args.disk.now) m) (sym crash_is) rests) in
    subst (λ (m : List Moment). LeavesSince (IsJournal other others) m (g.D.Disk.moments c.open.new.disk)) crash_is (cut_moments ended _ (g.D.Disk.moments c.open.new.disk) c.open.ensures.each_moment other others bytes is there)

pub returns-in_err-walk-clause-kept : goal.returns-in_err-walk-clause-kept
returns-in_err-walk-clause-kept g c = λ bytes rests. unmoved (IsKeptOrCut bytes) _ _ c.in_err-walk.ensures.reads.crash

pub returns-in_err-base-clause-kept : goal.returns-in_err-base-clause-kept
returns-in_err-base-clause-kept g c = λ bytes rests. unmoved (IsKeptOrCut bytes) _ _ c.in_ok-walk.ensures.reads.crash

pub returns-in_err-uploaded-clause-kept : goal.returns-in_err-uploaded-clause-kept
returns-in_err-uploaded-clause-kept g c = λ bytes rests. unmoved (IsKeptOrCut bytes) _ _ c.in_ok-walk.ensures.reads.crash

pub returns-in_err-entry-clause-kept : goal.returns-in_err-entry-clause-kept
returns-in_err-entry-clause-kept g c = λ bytes rests. unmoved (IsKeptOrCut bytes) _ _ (c.in_err-entry.ensures.reads.crash ∙ c.each.invariant.1.crash)

pub returns-in_err-add_all-clause-kept : goal.returns-in_err-add_all-clause-kept
returns-in_err-add_all-clause-kept g c = λ bytes rests. unmoved (IsKeptOrCut bytes) _ _ (c.in_ok-entry.ensures.reads.crash ∙ c.each.invariant.1.crash)

pub returns-in_err-log-clause-kept : goal.returns-in_err-log-clause-kept
returns-in_err-log-clause-kept g c =
    let base = c.in_ok-walk.walk.world in
    let entries = c.each.invariant.0 in
    let reading = c.each.invariant.1 in
    let reads = c.in_ok-entry.ensures.reads in
    let stepped = rw c.in_default.is at (c.in_ok-entry.ensures.stepped base entries (walked_now reading)) in
    let ended = subst (HasEnded base entries c.next.new.self) (sym reads.same) stepped in
    let seen_is = reads.same ∙ reading.same in
    let crash_is = reads.crash ∙ reading.crash in
    λ bytes rests.
    let there = subst (λ (s : Option (List ℕ)). Rests bytes s (g.D.Disk.moments c.next.new.disk)) (sym seen_is) (subst (λ (m : List Moment). Rests bytes (g.D.Disk.seen c.args.disk.now) m) (sym crash_is) rests) in
    subst (λ (m : List Moment). LeavesSince (IsKeptOrCut bytes) m (g.D.Disk.moments c.open.new.disk)) crash_is (cut_kept ended _ (g.D.Disk.moments c.open.new.disk) c.open.ensures.each_moment bytes there)

pub returns-clause-kept : goal.returns-clause-kept
returns-clause-kept g c =
    let base = c.in_ok-walk.walk.world in
    let entries = c.each.invariant.0 in
    let reading = c.each.invariant.1 in
    let reads = c.in_ok-entry.ensures.reads in
    let stepped = rw c.in_default.is at (c.in_ok-entry.ensures.stepped base entries (walked_now reading)) in
    let ended = subst (HasEnded base entries c.next.new.self) (sym reads.same) stepped in
    let seen_is = reads.same ∙ reading.same in
    let crash_is = reads.crash ∙ reading.crash in
    λ bytes rests.
    let there = subst (λ (s : Option (List ℕ)). Rests bytes s (g.D.Disk.moments c.next.new.disk)) (sym seen_is) (subst (λ (m : List Moment). Rests bytes (g.D.Disk.seen c.args.disk.now) m) (sym crash_is) rests) in
    subst (λ (m : List Moment). LeavesSince (IsKeptOrCut bytes) m (g.D.Disk.moments c.open.new.disk)) crash_is (cut_kept ended _ (g.D.Disk.moments c.open.new.disk) c.open.ensures.each_moment bytes there)

pub returns-in_err-walk-clause-left : goal.returns-in_err-walk-clause-left
returns-in_err-walk-clause-left g c = λ bytes rests. read_kept bytes _ _ _ _ (returns-in_err-walk-clause-kept g c) (g.met.D.Disk.left_now c.begin.new.disk) rests

pub returns-in_err-base-clause-left : goal.returns-in_err-base-clause-left
returns-in_err-base-clause-left g c = λ bytes rests. read_kept bytes _ _ _ _ (returns-in_err-base-clause-kept g c) (g.met.D.Disk.left_now c.begin.new.disk) rests

pub returns-in_err-uploaded-clause-left : goal.returns-in_err-uploaded-clause-left
returns-in_err-uploaded-clause-left g c = λ bytes rests. read_kept bytes _ _ _ _ (returns-in_err-uploaded-clause-kept g c) (g.met.D.Disk.left_now c.begin.new.disk) rests

pub returns-in_err-entry-clause-left : goal.returns-in_err-entry-clause-left
returns-in_err-entry-clause-left g c = λ bytes rests. read_kept bytes _ _ _ _ (returns-in_err-entry-clause-kept g c) (g.met.D.Disk.left_now c.next.new.disk) rests

pub returns-in_err-add_all-clause-left : goal.returns-in_err-add_all-clause-left
returns-in_err-add_all-clause-left g c = λ bytes rests. read_kept bytes _ _ _ _ (returns-in_err-add_all-clause-kept g c) (g.met.D.Disk.left_now c.next.new.disk) rests

pub returns-in_err-log-clause-left : goal.returns-in_err-log-clause-left
returns-in_err-log-clause-left g c = λ bytes rests. read_kept bytes _ _ _ _ (returns-in_err-log-clause-kept g c) (g.met.D.Disk.left_now c.open.new.disk) rests

pub returns-clause-left : goal.returns-clause-left
returns-clause-left g c = λ bytes rests. read_kept bytes _ _ _ _ (returns-clause-kept g c) (g.met.D.Disk.left_now c.open.new.disk) rests
