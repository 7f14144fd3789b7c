use Rattle.std.proofs.Common.{◌≡◌, ◌++◌, ℕ, List, length, ap, sym, subst, ◌∙◌, arith}
use Rattle.std.specs.Vec.{with_items}
use Rattle.std.proofs.lemmas.Result.{on_ok_weaker}
use Rattle.exit_crossing.specs.declared.leaving.Crosser.{Crosser}
use Rattle.ruled_tick.proofs.Places.{written_back}
use Rattle.ruled_tick.specs.inner.Entered.{AreGains}
use Rattle.room_step.specs.inner.Rooms.{with_points}
use Rattle.room_step.proofs.rooms.add_step.Goals as goal

pub returns : goal.returns
returns c =
    let accounts = c.args.accounts.now in
    let old = c.args.stepped.now in
    let beside : List ℕ = c.add_gain.new.gains in
    let read = c.deref_mut.ensures.value in
    let long : length beside ≡ length c.deref_mut.result.now = c.add_gain.auto.gains in
    let whole : old.gains.len ≡ length old.gains.items = omega (arith, c.deref_mut.ensures.len, ap length read) in
    let back : (with_items old.gains beside).items ≡ beside = written_back old.gains.items beside old.gains.len (long ∙ ap length read) whole in
    on_ok_weaker c.push_room.result (λ is. record {
      world = is;
      crossers = c.in_ok-extend_from_slice.ensures.items ∙ ap (λ (list : List Crosser). old.crossers.items ++ list) c.as_slice.ensures;
      gains = λ gain are. subst (AreGains (with_points c.args.room.done.player c.args.room.done.points gain) accounts) (sym back) (c.add_gain.ensures gain (subst (AreGains gain accounts) (sym read) are));
    }) c.push_room.ensures.ok
