use Rattle.std.proofs.Common.{◌∙◌, [], arith, inl, inr, refl, subst}
use Rattle.std.specs.Io.KnownBytes.{Appends}
use Rattle.world_io.specs.Moments.{no_moment}
use Rattle.world_io.specs.Told.{AppendsPrefix}
use Rattle.world_run.proofs.Outlasting.{opened_only, outlasts}
use Rattle.world_run.proofs.RunsLists.{leaves, leaves_part, leaves_start, prints}
use Rattle.world_run.proofs.ticks.keep_journal.Goals as goal

pub returns-clause-done : goal.returns-clause-done
returns-clause-done g c = λ done.
    let opened = c.in-Ok.ensures.opened in
    let run = c.run_ticks.ensures.done done in
    (run.0, run.1, leaves _ _ _ _ _ c.args.world opened.0 c.in-Ok.opening.kept _ _ run.0 opened.1 opened.2 (subst (Appends _ _) (c.deref.ensures.value ∙ c.in-Ok.ensures.line) c.in-Ok-write_all.ensures.whole) _ run.2 run.3)

pub returns-clause-exhausted : goal.returns-clause-exhausted
unfolding leaves prints
returns-clause-exhausted g c = λ index is.
    let opened = c.in-Ok.ensures.opened in
    let run = c.run_ticks.ensures.exhausted index is in
    (run.0, run.1, leaves _ _ _ _ _ c.args.world opened.0 c.in-Ok.opening.kept _ _ run.0 opened.1 opened.2 (subst (Appends _ _) (c.deref.ensures.value ∙ c.in-Ok.ensures.line) c.in-Ok-write_all.ensures.whole) _ run.2 run.3, run.4)

pub returns-clause-write_stopped : goal.returns-clause-write_stopped
returns-clause-write_stopped g c = λ stopped.
    let opened = c.in-Ok.ensures.opened in
    let run = c.run_ticks.ensures.write_stopped stopped in
    (run.0, run.1, leaves_part _ _ _ _ _ c.args.world opened.0 c.in-Ok.opening.kept _ _ run.0 opened.1 opened.2 (subst (Appends _ _) (c.deref.ensures.value ∙ c.in-Ok.ensures.line) c.in-Ok-write_all.ensures.whole) _ run.2 run.3)

pub returns-clause-disk_stopped : goal.returns-clause-disk_stopped
returns-clause-disk_stopped g c = λ stopped.
    let opened = c.in-Ok.ensures.opened in
    let run = c.run_ticks.ensures.disk_stopped stopped in
    inr (run.0, run.1, prints _ _ _ _ _ c.args.world opened.0 c.in-Ok.opening.kept _ _ run.0 opened.1 opened.2 (subst (Appends _ _) (c.deref.ensures.value ∙ c.in-Ok.ensures.line) c.in-Ok-write_all.ensures.whole) run.2)

pub returns-clause-memory_stopped : goal.returns-clause-memory_stopped
returns-clause-memory_stopped g c = λ stopped.
    let opened = c.in-Ok.ensures.opened in
    let run = c.run_ticks.ensures.memory stopped in
    inr (run.0, run.1, leaves _ _ _ _ _ c.args.world opened.0 c.in-Ok.opening.kept _ _ run.0 opened.1 opened.2 (subst (Appends _ _) (c.deref.ensures.value ∙ c.in-Ok.ensures.line) c.in-Ok-write_all.ensures.whole) _ run.2 run.3)

pub returns-in_default-clause-write_stopped : goal.returns-in_default-clause-write_stopped
returns-in_default-clause-write_stopped g c = λ stopped.
    let opened = c.in-Ok.ensures.opened in
    ([], omega arith, leaves_start _ _ _ _ c.args.world opened.0 c.in-Ok.opening.kept _ _ opened.1 opened.2 (subst (AppendsPrefix _ _) (c.deref.ensures.value ∙ c.in-Ok.ensures.line) c.in_default.ensures.prefix))

pub returns-in-Err-clause-journal_refused : goal.returns-in-Err-clause-journal_refused
returns-in-Err-clause-journal_refused g c = λ at is.
    let end = c.in-Err.ensures.not_a_journal at is in
    (end.0, end.1, refl)

pub returns-in-Err-clause-outlasts : goal.returns-in-Err-clause-outlasts
returns-in-Err-clause-outlasts g c = λ bytes rests base entries stood. record {
  steps = [];
  begun = [];
  rest = [];
  ordered = refl;
  few = omega arith;
  opened = _;
  opening = c.open_journal.ensures.opening bytes rests base entries stood;
  lasting = no_moment;
  printed = inl (refl, refl);
}

pub returns-in_default-clause-outlasts : goal.returns-in_default-clause-outlasts
returns-in_default-clause-outlasts g c = λ bytes rests base entries stood.
    let opened = c.in-Ok.ensures.opened in
    opened_only _ _ _ bytes base entries c.args.ticks c.args.world opened.0 c.in-Ok.opening.kept _ _ _ _ rests stood opened.1 opened.2 c.open_journal.ensures.alike (c.open_journal.ensures.opening bytes rests base entries stood)
    (subst (AppendsPrefix _ _) (c.deref.ensures.value ∙ c.in-Ok.ensures.line) c.in_default.ensures.prefix)

pub returns-clause-outlasts : goal.returns-clause-outlasts
returns-clause-outlasts g c = λ bytes rests base entries stood.
    let opened = c.in-Ok.ensures.opened in
    outlasts _ _ _ bytes base entries c.args.ticks c.args.world opened.0 c.in-Ok.opening.kept _ _ _ _ rests stood opened.1 opened.2 c.open_journal.ensures.alike (c.open_journal.ensures.opening bytes rests base entries stood)
    _ _ (subst (Appends _ _) (c.deref.ensures.value ∙ c.in-Ok.ensures.line) c.in-Ok-write_all.ensures.whole) c.run_ticks.ensures.lasts
