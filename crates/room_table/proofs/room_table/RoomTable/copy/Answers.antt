use Rattle.std.proofs.Common.{◌≡◌, ◌<◌, ℕ, List, length, sym, ap, subst, ◌∙◌, arith, IfOk}
use Rattle.std.specs.FinMap.{from_entries}
use Rattle.std.specs.List.{AllByRecursion}
use Rattle.std.proofs.lemmas.List.{length-map}
use Rattle.room_table.specs.declared.tally.Tally.{Tally}
use Rattle.room_table.specs.Tables.{Table}
use Rattle.room_table.specs.inner.Placed.{standing}
use Rattle.room_table.specs.inner.Tallied.{done_to, tallies_in, tally_in, IsCapped}
use Rattle.room_table.proofs.Changed.{standing_equal}
use Rattle.room_table.proofs.Placed.{count_standing}
use Rattle.room_table.proofs.Tallied.{all_capped_in}
use Rattle.room_table.proofs.room_table.RoomTable.copy.Goals as goal

pub copied_tallies-requires-clause-known : goal.copied_tallies-requires-clause-known
copied_tallies-requires-clause-known c =
    let was = c.self.inside in
    let known = subst (λ n. AllByRecursion (λ slot. slot < n) was.order.items) (sym c.self.invariant.2.long) c.self.invariant.0.known in
    subst (λ (ts : List Tally). AllByRecursion (λ slot. slot < length ts) c.deref-4.result.now) (sym c.deref-3.ensures.value) (subst (λ (os : List ℕ). AllByRecursion (λ slot. slot < length was.tallies.items) os) (sym c.deref-4.ensures.value) known)

pub filled-requires-clause-beside : goal.filled-requires-clause-beside
filled-requires-clause-beside c =
    let was = c.self.inside in
    let slots = was.slots.items in
    let order = was.order.items in
    let tallies = was.tallies.items in
    let new_slots : c.in_ok-slots.slots.items ≡ standing slots order = c.in_ok-slots.ensures.objects ∙ standing_equal c.deref.ensures.value c.deref-2.ensures.value in
    let new_tallies : c.in_ok-tallies.tallies.items ≡ tallies_in tallies order = c.in_ok-tallies.ensures.tallies ∙ (λ i. tallies_in (c.deref-3.ensures.value i) (c.deref-4.ensures.value i)) in
    let slots_count = ap length new_slots ∙ count_standing slots order in
    let tallies_count = ap length new_tallies ∙ length-map order (tally_in tallies) in
    let order_count = ap (λ (os : List ℕ). length os) c.deref-4.ensures.value in record {
      long = tallies_count ∙ sym slots_count;
      room = omega (arith, slots_count, order_count, c.in_ok-tallies.ensures.room);
      capped = subst (AllByRecursion IsCapped) (sym new_tallies) (all_capped_in tallies order c.self.invariant.2.capped);
    }

pub returns : goal.returns
returns c =
    let was = c.self.inside in
    let slots = was.slots.items in
    let order = was.order.items in
    let tallies = was.tallies.items in
    let new_slots : c.in_ok-slots.slots.items ≡ standing slots order = c.in_ok-slots.ensures.objects ∙ standing_equal c.deref.ensures.value c.deref-2.ensures.value in
    let new_tallies : c.in_ok-tallies.tallies.items ≡ tallies_in tallies order = c.in_ok-tallies.ensures.tallies ∙ (λ i. tallies_in (c.deref-3.ensures.value i) (c.deref-4.ensures.value i)) in
    subst (λ (t : Table). IfOk c.filled.result (λ copy. copy ≡ t)) ((λ i. record {
      index = was.index;
      next = was.next;
      objects = new_slots i;
      spare = c.args.spare;
      tallies = from_entries (done_to (new_slots i) (new_tallies i));
    }) ∙ ap (λ (t : Table). record t { spare = c.args.spare }) c.self.view_is) c.filled.ensures
