use Rattle.std.proofs.Common.{◌≡◌, ◌+◌, ◌++◌, [], ◌∷◌, List, take, length, sym, ap, subst, ◌∙◌, arith}
use Rattle.std.proofs.lemmas.List.{length-take-le, take_more}
use Rattle.object_store.specs.declared.world.Room.{Room}
use Rattle.visible_view.specs.inner.Gathered.{IsGathered}
use Rattle.visible_view.proofs.Gathering.{gathered_more}
use Rattle.visible_view.proofs.gather.gather.Goals as goal

pub loop-index-preserved : goal.loop-index-preserved
loop-index-preserved c =
    let rooms = c.args.rooms.now in
    let index = c.loop-index.index in
    let room = c.index-rooms-index.result in
    let place : length (take index rooms) ≡ index = length-take-le index rooms (omega arith) in
    let more : take (index + 1) rooms ≡ take index rooms ++ room ∷ [] = take_more rooms index room c.loop-index-test.true ∙ ap (λ (r : Room). take index rooms ++ r ∷ []) (sym c.index-rooms-index.is) in
    record {
      gathered = subst (λ (taken : List Room). IsGathered c.args.player taken c.add.new.self) (sym more) (gathered_more c.args.player index (take index rooms) room c.loop-index.gathered c.add.new.self (sym place) c.loop-index.invariant.gathered c.in_ok-add.ensures.added);
      few_sites = omega (arith, c.in_ok-add.ensures.few_sites);
      few_controllers = omega (arith, c.in_ok-add.ensures.few_controllers);
    }
