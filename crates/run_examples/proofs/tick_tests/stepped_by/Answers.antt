use Rattle.std.proofs.Common.{◌≡◌, ◌<◌, ◌≤◌, List, [], length, IsTrue, sym, ap, subst, arith}
use Rattle.std.proofs.lemmas.Option.{get_or_from_slice_get, slice_get_within}
use Rattle.intent_book.specs.declared.intent.Intent.{Intent}
use Rattle.object_store.specs.declared.world.Room.{Room}
use Rattle.world_rules.specs.Sound.{serials_bound}
use Rattle.room_step.proofs.Whole.{keeps_its_rules}
use Rattle.room_step.specs.Steps.{MayBeStepped}
use Rattle.run_examples.proofs.tick_tests.stepped_by.Goals as goal

pub steps_by_workers-requires-clause-rooms : goal.steps_by_workers-requires-clause-rooms
steps_by_workers-requires-clause-rooms g c κs within =
    let world = c.args.world.now in
    let lists : List (List Intent) = c.args.lists.now in
    let many : length lists ≡ length world.rooms = omega (arith, c.if-lists-rooms.false, ap length c.room_list-rooms.ensures.all) in
    let few : IsTrue c.are_few.result = cc in
    subst (λ (rooms : List Room). MayBeStepped rooms lists) (sym c.room_list-rooms.ensures.all) (record {
      many = many;
      short = (let below = c.room_list-rooms.ensures.within in omega (arith, below, ap length c.room_list-rooms.ensures.all));
      places = c.requires.sound.places;
      each = λ k room at.
          let inside : k < length world.rooms = slice_get_within world.rooms k room at in
          record {
            rules = keeps_its_rules world c.requires.sound k room at;
            serials = subst (λ (r : Room). r.table.next ≤ serials_bound) (get_or_from_slice_get world.rooms k room room at) (c.requires.serials k room inside);
            few = c.are_few.ensures few k [] (omega (arith, inside, many));
          };
    })
