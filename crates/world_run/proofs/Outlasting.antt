-- A run from an opened journal, and what a crash leaves of it.
use Rattle.std.proofs.Common.{ℕ, List, [], Option, inr, refl, sym, subst, arith}
use Rattle.std.proofs.lemmas.List.{append-nil}
use Rattle.std.specs.List.{flat_map}
use Rattle.std.specs.Io.KnownBytes.{Appends}
use Rattle.object_store.specs.Stored.{Stored}
use Rattle.tick_journal.specs.BaseForms.{world_as_read}
use Rattle.tick_journal.specs.declared.tick_record.TickRecord.{TickRecord}
use Rattle.upload_stream.specs.Streams.{Upload}
use Rattle.world_io.specs.Disk.{TellsAlike}
use Rattle.world_io.specs.Moments.{LeavesNow, LeavesSince, Moment, Rests, no_moment}
use Rattle.world_io.specs.Told.{AppendsPrefix}
use Rattle.world_journal.specs.Journals.{HasJournal, IsJournal}
use Rattle.run_lines.specs.Lines.{start_line}
use Rattle.world_run.specs.declared.kept.Kept.{Kept}
use Rattle.world_run.specs.Runs.{Stood}
use Rattle.world_run.specs.inner.Held.{IsKeptAt, step_lines}
use Rattle.world_run.specs.Images.{IsOpening}
use Rattle.world_run.specs.inner.Crashes.{Lasts, Outlasts, StoodAs}
use Rattle.world_run.proofs.Crashes.{now_all, now_has, prefix_more, same_stood, told_still}

module _ (sink_old sink_new : Option (List ℕ)) (stream : List Upload) (bytes : List ℕ) (base : Stored) (entries : List TickRecord) (count : ℕ) (world : Stored) (others : List TickRecord) (kept : Kept) (seen_old : Option (List ℕ)) (moments_old : List Moment) (seen : Option (List ℕ)) (moments : List Moment)
    (rests : Rests bytes seen_old moments_old) (began : StoodAs world bytes base entries) (stood : Stood seen_old (world_as_read world) others) (there : IsKeptAt (world_as_read world) others kept seen moments) (alike : TellsAlike seen_old seen) (opening : LeavesSince (IsOpening bytes base entries) moments_old moments) where
  at_journal : IsKeptAt base entries kept seen moments
  at_journal =
      let same = same_stood world bytes base entries others seen_old rests.read began stood in
      subst (λ (l : List TickRecord). IsKeptAt base l kept seen moments) same.1 (subst (λ (w : Stored). IsKeptAt w others kept seen moments) same.0 there)

  has_journal : HasJournal base entries kept.journal.log.gate seen moments
  has_journal = told_still (HasJournal base entries kept.journal.log.gate seen moments) bytes seen_old seen rests.read alike at_journal.journal

  pub opened_only : AppendsPrefix sink_old sink_new (start_line kept.hosted.world) → Outlasts sink_old sink_new stream bytes base entries count moments_old moments
  opened_only line = record {
    steps = [];
    begun = [];
    rest = [];
    ordered = refl;
    few = omega arith;
    opened = moments;
    opening = opening;
    lasting = no_moment;
    printed = inr (
      kept.hosted,
      at_journal.at_end,
      at_journal.at_end.hosted,
      subst (λ (l : List ℕ). AppendsPrefix sink_old sink_new l) (sym (append-nil (start_line kept.hosted.world))) line,
      now_all base entries [] moments (subst (λ (l : List TickRecord). LeavesNow (IsJournal base l) moments) (sym (append-nil entries)) (now_has base entries kept.journal.log.gate seen moments has_journal)),
    );
  }

  pub outlasts : (sink : Option (List ℕ)) (later : List Moment) → Appends sink_old sink (start_line kept.hosted.world) → Lasts sink sink_new stream kept count seen moments later → Outlasts sink_old sink_new stream bytes base entries count moments_old later
  outlasts sink later line lasts =
      let each = lasts.each base entries at_journal has_journal in
      record {
        steps = lasts.steps;
        begun = lasts.begun;
        rest = lasts.rest;
        ordered = lasts.ordered;
        few = lasts.few;
        opened = moments;
        opening = opening;
        lasting = each.0;
        printed = inr (
          kept.hosted,
          at_journal.at_end,
          lasts.follow,
          prefix_more sink_old sink sink_new (start_line kept.hosted.world) (flat_map step_lines lasts.begun) line lasts.lines,
          each.1,
        );
      }
