use Rattle.std.proofs.Common.{◌∙◌, ◌<◌, ℕ, [], ◌∷◌, ◌++◌, ap, arith, refl, sym, subst}
use Rattle.hosted_tick.specs.Hosting.{IsHosted}
use Rattle.object_store.specs.Stored.{Stored}
use Rattle.recorded_tick.specs.Recording.{AreReadAlike}
use Rattle.recorded_tick.proofs.Alike.{hosted_alike}
use Rattle.rule_check.specs.Kept.{KeepsObjectRules}
use Rattle.changed_rules.specs.Census.{ArePlaced}
use Rattle.world_io.specs.Disk.{LengthIs}
use Rattle.world_journal.proofs.Readings.{passed_now, passing_end, passing_more, passing_put}
use Rattle.world_replay.proofs.Replays.{ruled_more, stopped_more, told_fits, told_form, told_frame, told_rising, told_ruled, told_unruled, walked_tested}
use Rattle.world_replay.proofs.replay.rule_records.Goals as goal

pub rule_told-requires-clause-told : goal.rule_told-requires-clause-told
rule_told-requires-clause-told g c =
    let base = c.args.walk.world in
    let entries = c.each.invariant.0 in
    let passing = c.each.invariant.1 in
    let alike = c.each.invariant.3 in
    let before = c.each.walk.world in
    let told = c.in_ok-told.ensures in
    let put = passing_put passing c.next.new.self c.in_ok-told.field-0 c.in-Some.told c.in-Some.is (told.passed base entries (passed_now passing)) in
    let hosted = hosted_alike c.each.own before alike (subst IsHosted (sym passing.passed.world) (c.courses_can_be_hosted.ensures base entries passing.passed.course).0) in record {
      hosted = hosted;
      fits = told_fits c.each.own before c.next.new.self.world put.entry c.in-Some.told put.rest alike put.fits put.world;
      form = told_form c.each.own before c.next.new.self.world put.entry c.in-Some.told put.rest alike put.fits put.world put.read.form;
      frame = told_frame c.each.own before c.next.new.self.world put.entry c.in-Some.told put.rest alike put.fits put.world;
      rising = told_rising c.each.own before c.next.new.self.world put.entry c.in-Some.told put.rest alike put.fits put.world hosted.sound.accounts;
      sound = λ keeps.
          let next = passing_more passing c.next.new.self c.next.new.self c.in-Some.told _ _ _ put keeps refl refl refl told.length told.reads.same told.reads.crash told.reads.steady in
          (subst IsHosted (sym next.passed.world) (c.courses_can_be_hosted.ensures base (entries ++ put.entry ∷ []) next.passed.course).0).sound;
    }

pub each-smaller : goal.each-smaller
each-smaller g c =
    let told = c.in_ok-told.ensures in
    let came = rw c.in-Ruled.is at c.in_ok-ruled.ensures.came in
    let moves : c.each.walk.gate < c.next.new.self.gate = rw c.in-Some.is at told.moves in
    let gate = came.5 in
    let place = c.each.walk.place in
    let limit = c.each.walk.limit in
    omega (arith, moves, gate, place, limit)

pub each-preserved : goal.each-preserved
each-preserved g c =
    let base = c.args.walk.world in
    let entries = c.each.invariant.0 in
    let passing = c.each.invariant.1 in
    let alike = c.each.invariant.3 in
    let before = c.each.walk.world in
    let told = c.in_ok-told.ensures in
    let put = passing_put passing c.next.new.self c.in_ok-told.field-0 c.in-Some.told c.in-Some.is (told.passed base entries (passed_now passing)) in
    let came = rw c.in-Ruled.is at c.in_ok-ruled.ensures.came in
    let next = passing_more passing c.next.new.self c.in-Ruled.behind c.in-Some.told _ _ _ put came.2 came.4 came.5 came.6 told.length told.reads.same told.reads.crash told.reads.steady in (
      entries ++ put.entry ∷ [],
      next,
      ruled_more base entries put.entry c.each.own before passing.passed.world alike c.each.invariant.2 came.0 (told_ruled c.each.own before c.next.new.self.world put.entry c.in-Some.told put.rest alike put.fits put.world came.1),
      subst (AreReadAlike c.in-Ruled.ruled) (sym came.4) came.3,
      subst (λ (w : Stored). ArePlaced w.rooms) (sym came.4) told.places,
    )

pub returns-in-Unruled-clause-come : goal.returns-in-Unruled-clause-come
returns-in-Unruled-clause-come g c =
    let base = c.args.walk.world in
    let entries = c.each.invariant.0 in
    let passing = c.each.invariant.1 in
    let alike = c.each.invariant.3 in
    let before = c.each.walk.world in
    let told = c.in_ok-told.ensures in
    let put = passing_put passing c.next.new.self c.in_ok-told.field-0 c.in-Some.told c.in-Some.is (told.passed base entries (passed_now passing)) in
    let came = rw c.in-Unruled.is at c.in_ok-ruled.ensures.came in (
      entries ++ put.entry ∷ [],
      (
        walked_tested base (entries ++ put.entry ∷ []) c.next.new.self c.in-Unruled.rest _ (put.passes (subst KeepsObjectRules came.2 came.1.rules)) came.2 came.3 came.1,
        subst (λ (n : ℕ). LengthIs (g.D.Disk.seen c.args.disk.now) n) (sym came.4) (rw passing.same at told.length),
        stopped_more base entries put.entry c.each.own before passing.passed.world alike c.each.invariant.2 c.in-Unruled.status (told_unruled c.each.own before c.next.new.self.world put.entry c.in-Some.told put.rest alike put.fits put.world c.in-Unruled.status came.0),
      ),
    )

pub returns-clause-come : goal.returns-clause-come
returns-clause-come g c =
    let passing = c.each.invariant.1 in
    let whole = passing_end passing c.next.new.self c.in_ok-told.field-0 c.in_default-2.is (c.in_ok-told.ensures.passed c.args.walk.world c.each.invariant.0 (passed_now passing)) in
    (c.each.invariant.0, (whole.course, whole.journal, c.each.invariant.2, c.tick.ensures ∙ ap (λ (w : Stored). w.tick) c.world-2.ensures ∙ whole.last))
