use Rattle.std.proofs.Common.{inl, inr}
use Rattle.std.proofs.lemmas.Result.{err_from_is_err_and}
use Rattle.serde_json.specs.View.{view}
use Rattle.world_form.specs.declared.field.Field.TheVariants as fields
use Rattle.world_form.specs.Facts.{IsWhole32, IsWhole53}
use Rattle.world_form.proofs.Said.{default_holds}
use Rattle.world_text.proofs.objects.read_counters.Goals as goal

pub returns-in_err-energy-clause-err : goal.returns-in_err-energy-clause-err
returns-in_err-energy-clause-err c =
    let p = err_from_is_err_and c.from_residual.result c.from_residual.ensures.1 in
    rw (p.1, p.2) (
    inl c.in_err-energy.ensures.err
    )

pub returns-in_err-timer-clause-err : goal.returns-in_err-timer-clause-err
returns-in_err-timer-clause-err c =
    let part = view c.args.part.now in
    let p = err_from_is_err_and c.from_residual-in_err-timer.result c.from_residual-in_err-timer.ensures.1 in
    rw (p.1, p.2) (
    inr (default_holds fields.Energy IsWhole53 0 part c.in_ok-energy.energy c.in_ok-energy.ensures.ok, inl c.in_err-timer.ensures.err)
    )

pub returns-in_err-extra-clause-err : goal.returns-in_err-extra-clause-err
returns-in_err-extra-clause-err c =
    let part = view c.args.part.now in
    let p = err_from_is_err_and c.from_residual-in_err-extra.result c.from_residual-in_err-extra.ensures.1 in
    rw (p.1, p.2) (
    inr (default_holds fields.Energy IsWhole53 0 part c.in_ok-energy.energy c.in_ok-energy.ensures.ok, inr (default_holds fields.Timer IsWhole32 0 part c.in_ok-timer.timer c.in_ok-timer.ensures.ok, inl c.in_err-extra.ensures.err))
    )

pub returns-in_err-progress-clause-err : goal.returns-in_err-progress-clause-err
returns-in_err-progress-clause-err c =
    let part = view c.args.part.now in
    let p = err_from_is_err_and c.from_residual-in_err-progress.result c.from_residual-in_err-progress.ensures.1 in
    rw (p.1, p.2) (
    inr (
      default_holds fields.Energy IsWhole53 0 part c.in_ok-energy.energy c.in_ok-energy.ensures.ok,
      inr (
        default_holds fields.Timer IsWhole32 0 part c.in_ok-timer.timer c.in_ok-timer.ensures.ok,
        inr (default_holds fields.Extra IsWhole32 0 part c.in_ok-extra.extra c.in_ok-extra.ensures.ok, inl c.in_err-progress.ensures.err),
      ),
    )
    )

pub returns-in_err-other-clause-err : goal.returns-in_err-other-clause-err
returns-in_err-other-clause-err c =
    let part = view c.args.part.now in
    let p = err_from_is_err_and c.from_residual-in_err-other.result c.from_residual-in_err-other.ensures.1 in
    rw (p.1, p.2) (
    inr (
      default_holds fields.Energy IsWhole53 0 part c.in_ok-energy.energy c.in_ok-energy.ensures.ok,
      inr (
        default_holds fields.Timer IsWhole32 0 part c.in_ok-timer.timer c.in_ok-timer.ensures.ok,
        inr (
          default_holds fields.Extra IsWhole32 0 part c.in_ok-extra.extra c.in_ok-extra.ensures.ok,
          inr (default_holds fields.Progress IsWhole53 0 part c.in_ok-progress.progress c.in_ok-progress.ensures.ok, inl c.in_err-other.ensures.err),
        ),
      ),
    )
    )

pub returns-in_err-other_ticks-clause-err : goal.returns-in_err-other_ticks-clause-err
returns-in_err-other_ticks-clause-err c =
    let part = view c.args.part.now in
    let p = err_from_is_err_and c.from_residual-in_err-other_ticks.result c.from_residual-in_err-other_ticks.ensures.1 in
    rw (p.1, p.2) (
    inr (
      default_holds fields.Energy IsWhole53 0 part c.in_ok-energy.energy c.in_ok-energy.ensures.ok,
      inr (
        default_holds fields.Timer IsWhole32 0 part c.in_ok-timer.timer c.in_ok-timer.ensures.ok,
        inr (
          default_holds fields.Extra IsWhole32 0 part c.in_ok-extra.extra c.in_ok-extra.ensures.ok,
          inr (
            default_holds fields.Progress IsWhole53 0 part c.in_ok-progress.progress c.in_ok-progress.ensures.ok,
            inr (default_holds fields.Other IsWhole32 0 part c.in_ok-other.other c.in_ok-other.ensures.ok, inl c.in_err-other_ticks.ensures.err),
          ),
        ),
      ),
    )
    )
