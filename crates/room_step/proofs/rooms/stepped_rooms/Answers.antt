use Rattle.std.proofs.Common.{◌≡◌, ℕ, ◌+◌, ◌<◌, ◌≤◌, List, [], length, replicate, sym, ap, subst, ◌∙◌, arith, rules}
use Rattle.std.specs.List.Sorted.{IsPermutation}
use Rattle.std.proofs.lemmas.List.Sorted.{IsNonDecreasingBy-from_sort_by_key}
use Rattle.std.proofs.lemmas.Option.{get_or_from_slice_get, slice_get_within}
use Rattle.intent_book.specs.declared.intent.Intent.{Intent}
use Rattle.object_store.specs.declared.account.Account.{Account}
use Rattle.object_store.specs.declared.world.Room.{Room}
use Rattle.world_rules.specs.World.{world_of}
use Rattle.world_rules.specs.Tick.{book, gained}
use Rattle.exit_crossing.specs.declared.leaving.Crosser.{Crosser}
use Rattle.exit_crossing.specs.inner.Leaving.{id_of}
use Rattle.ruled_tick.specs.inner.Entered.{AreGains}
use Rattle.room_step.specs.Steps.{list_at}
use Rattle.room_step.specs.inner.Rooms.{IsPut}
use Rattle.room_step.proofs.Added.{index_left, stepped_none}
use Rattle.room_step.proofs.Steps.{as_many_rooms, here, inside, no_rooms, so_far_all, so_far_more}
use Rattle.room_step.specs.Steps.{AreStepped, MayBeStepped}
use Rattle.room_step.specs.declared.steppers.SteppedRoom.{SteppedRoom}
use Rattle.world_rules.specs.Sound.{serials_bound}
use Rattle.room_step.proofs.Whole.{are_gains, are_ruled, few_those, keeps_its_rules}
use Rattle.room_step.proofs.rooms.stepped_rooms.Goals as goal

pub step_rooms-requires-clause-rooms : goal.step_rooms-requires-clause-rooms
step_rooms-requires-clause-rooms g c =
    let world = c.args.world in
    let lists : List (List Intent) = c.args.lists.now in
    let list : List Intent = c.requires.few.0 in
    let few = c.requires.few.1 in
    let are = c.requires.few.2 in
    let below = c.stands_in_order.ensures.rooms in
    let may : MayBeStepped world.rooms lists = record {
      many = c.requires.rooms;
      short = omega (arith, below);
      places = c.requires.sound.places;
      each = λ k room at.
          let within : k < length world.rooms = slice_get_within world.rooms k room at in
          record {
            rules = keeps_its_rules world c.requires.sound k room at;
            serials = subst (λ (r : Room). r.table.next ≤ serials_bound) (get_or_from_slice_get world.rooms k room room at) (c.requires.serials k room within);
            few = (let same = ap length (are k (omega (arith, within, c.requires.rooms))) in let those = few_those (world_of world) k list in omega (arith, same, those, few));
          };
    } in
    subst (λ (rooms : List Room). MayBeStepped rooms lists) (sym c.into_parts-rooms.ensures.rooms) may

pub loop-room-init : goal.loop-room-init
loop-room-init g c =
    let accounts : List Account = c.args.world.accounts in
    let many : c.len.result ≡ length accounts = omega (arith, c.len.ensures, c.into_parts-rooms.result.1.ok, ap length c.into_parts-rooms.ensures.accounts) in
    record {
      stepped = stepped_none (c.args.world.tick + 1) accounts c.args.lists.now (record { world = c.empty.result; crossers = c.new.result; gains = c.in_ok-vec.field-0 })
          (c.empty.ensures ∙ (λ i. record { tick = c.tick-tick.ensures i + 1; rooms = []; accounts = [] }))
          c.new.ensures.items
          (c.in_ok-vec.ensures.items_if_clones_equal (λ y same. same) ∙ ap (λ (n : ℕ). replicate n 0) many);
      all = subst (λ (steps : List SteppedRoom). AreStepped c.args.lists.now c.args.world.rooms steps) (sym c.into_iter-room-iterator.ensures.into_iter_gives.0)
          (subst (λ (rooms : List Room). AreStepped c.args.lists.now rooms c.in_ok-done.done.items) c.into_parts-rooms.ensures.rooms c.in_ok-done.ensures);
    }

pub add_step-requires-clause-place : goal.add_step-requires-clause-place
add_step-requires-clause-place g c =
    let accounts : List Account = c.args.world.accounts in
    let there = here (c.args.world.tick + 1) accounts c.args.lists.now c.args.world.rooms c.loop-room.yielded c.loop-room.room-iterator.rest.items c.next.new.self.rest.items c.in-Some.room c.loop-room.stepped c.in-Some.ensures.steps.0 c.loop-room.invariant in
    let many = as_many_rooms (c.args.world.tick + 1) accounts c.args.lists.now c.args.world.rooms c.loop-room.yielded c.loop-room.room-iterator.rest.items c.next.new.self.rest.items c.in-Some.room c.loop-room.stepped c.in-Some.ensures.steps.0 c.loop-room.invariant in
    index_left there.room (list_at c.args.lists.now (length c.loop-room.yielded)) c.in-Some.room.done there.step.step ∙ c.requires.sound.places (length c.loop-room.yielded) there.room there.at ∙ sym many

pub add_step-requires-clause-within : goal.add_step-requires-clause-within
add_step-requires-clause-within g c =
    let accounts : List Account = c.args.world.accounts in
    let within = inside (c.args.world.tick + 1) accounts c.args.lists.now c.args.world.rooms c.loop-room.yielded c.loop-room.room-iterator.rest.items c.next.new.self.rest.items c.in-Some.room c.loop-room.stepped c.in-Some.ensures.steps.0 c.loop-room.invariant in
    let many = as_many_rooms (c.args.world.tick + 1) accounts c.args.lists.now c.args.world.rooms c.loop-room.yielded c.loop-room.room-iterator.rest.items c.next.new.self.rest.items c.in-Some.room c.loop-room.stepped c.in-Some.ensures.steps.0 c.loop-room.invariant in
    let below = c.stands_in_order.ensures.rooms in
    omega (arith, within, many, below)

pub loop-room-preserved : goal.loop-room-preserved
loop-room-preserved g c =
    let accounts : List Account = c.args.world.accounts in
    let read : c.deref.result.now ≡ accounts = c.deref.ensures.value ∙ c.into_parts-rooms.ensures.accounts in
    let put : IsPut accounts c.in-Some.room c.loop-room.stepped c.add_step.new.stepped =
    subst (λ (list : List Account). IsPut list c.in-Some.room c.loop-room.stepped c.add_step.new.stepped) read c.in_ok-add_step.ensures in
    so_far_more (c.args.world.tick + 1) accounts c.args.lists.now c.args.world.rooms c.loop-room.yielded c.loop-room.room-iterator.rest.items c.next.new.self.rest.items c.in-Some.room c.loop-room.stepped c.in-Some.ensures.steps.0 c.loop-room.invariant c.add_step.new.stepped put

pub returns-clause-rooms : goal.returns-clause-rooms
returns-clause-rooms g c = λ list are.
    let world = c.args.world in
    let none : c.loop-room.room-iterator.rest.items ≡ [] = no_rooms c.loop-room.room-iterator.rest.items (omega (arith, c.loop-room.room-iterator.rest.ok, c.in-None.ensures.steps.0)) in
    let has = so_far_all (world.tick + 1) world.accounts c.args.lists.now world.rooms c.loop-room.yielded c.loop-room.room-iterator.rest.items c.loop-room.stepped none c.loop-room.invariant in
    are_ruled world c.requires.sound c.args.lists.now c.requires.rooms list are c.loop-room.stepped has c.sort_unstable_by_key.new.self.items
    (subst (λ (list : List Crosser). IsPermutation list c.sort_unstable_by_key.new.self.items) has.crossers c.sort_unstable_by_key.ensures.permutation)
    (IsNonDecreasingBy-from_sort_by_key id_of c.sort_unstable_by_key.new.self.items c.sort_unstable_by_key.ensures.sorted (λ a r q k. search rules))

pub returns-clause-gains : goal.returns-clause-gains
returns-clause-gains g c = λ list are.
    let world = c.args.world in
    let none : c.loop-room.room-iterator.rest.items ≡ [] = no_rooms c.loop-room.room-iterator.rest.items (omega (arith, c.loop-room.room-iterator.rest.ok, c.in-None.ensures.steps.0)) in
    let has = so_far_all (world.tick + 1) world.accounts c.args.lists.now world.rooms c.loop-room.yielded c.loop-room.room-iterator.rest.items c.loop-room.stepped none c.loop-room.invariant in
    subst (λ (accounts : List Account). AreGains (gained book (world_of world) list) accounts c.loop-room.stepped.gains.items) (sym c.into_parts-rooms.ensures.accounts)
    (are_gains world c.requires.sound c.args.lists.now c.requires.rooms list are c.loop-room.stepped has)
