use Rattle.std.proofs.Common.{[], refl, sym, subst}
use Rattle.hosted_tick.specs.Hosting.{Held}
use Rattle.recorded_tick.specs.Recording.{StandsAt}
use Rattle.tick_journal.specs.BaseForms.{world_as_read}
use Rattle.world_io.specs.Moments.{no_moment}
use Rattle.world_run.proofs.Opened.{begun_journal}
use Rattle.world_run.specs.inner.Held.{IsAt}
use Rattle.world_run.proofs.opening.begin.Goals as goal

pub returns-in-Ok-create-clause-opened : goal.returns-in-Ok-create-clause-opened
returns-in-Ok-create-clause-opened g c =
    let starts = c.requires.starts in
    let base = world_as_read c.args.world in
    let at : IsAt base [] (record { world = c.args.world; modules = [] }) = record { world = refl; modules = refl; hosted = starts.hosted; few = starts.few } in
    record {
      at_end = subst (IsAt base []) (sym c.new.ensures) at;
      recorder = subst (λ (held : Held). StandsAt c.in-Ok-of.recorder held.world) (sym c.new.ensures) c.in-Ok-of.ensures;
      journal = begun_journal base c.in-Ok-create.journal.log.gate _ _ _ _ c.requires.none c.create.ensures.alike (λ bytes none rests. c.in-Ok-create.ensures.done bytes none rests starts.begins);
      log = c.in-Ok-create.ensures.rests;
      is_open = c.in-Ok-create.ensures.is_open;
    }

pub returns-in_default-clause-opening : goal.returns-in_default-clause-opening
returns-in_default-clause-opening g c = λ bytes none rests. no_moment

pub returns-in_default-of-clause-opening : goal.returns-in_default-of-clause-opening
returns-in_default-of-clause-opening g c = λ bytes none rests. no_moment
