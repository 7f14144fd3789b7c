use Rattle.std.proofs.Common.{◌≡◌, ◌++◌, ℕ, List, drop, take, length, refl, arith, sym, ap, subst, ◌∙◌, inl, inr}
use Rattle.std.proofs.lemmas.Bool.{cases_lt}
use Rattle.std.specs.List.{AllByRecursion}
use Rattle.std.proofs.lemmas.List.{append-nil, drop_all, get_or_past, take_all}
use Rattle.room_table.specs.declared.tally.Tally.{Tally}
use Rattle.std.proofs.lemmas.List.Elements.{recursion_from_All}
use Rattle.room_table.specs.Tables.{Table}
use Rattle.room_table.specs.Tallies.{no_tallies, no_tally}
use Rattle.room_table.specs.inner.Placed.{standing}
use Rattle.room_table.specs.inner.Tallied.{tally_in, IsCapped}
use Rattle.room_table.proofs.Tallied.{none_capped}
use Rattle.room_table.proofs.TallyChanges.{tallied_equal, tallied_none}
use Rattle.room_table.proofs.room_table.RoomTable.clear_sums.Goals as goal

written : (was new : List Tally) (n : ℕ) → length new ≡ n → length was ≡ n → take n (new ++ drop (length new) was) ≡ new
written was new n new_long was_long =
    ap (λ rest. take n (new ++ rest)) (drop_all (length new) was (omega arith)) ∙ ap (take n) (append-nil new) ∙ take_all n new (omega arith)

pub invariant_of-self : goal.invariant_of-self
invariant_of-self c =
    let was = c.self.inside in
    let beside = c.self.invariant.2 in
    let new_long = c.clear.ensures.long ∙ ap length c.deref_mut.ensures.value in
    let new_items = written was.tallies.items c.clear.new.tallies was.tallies.len (new_long ∙ sym was.tallies.ok.0) (sym was.tallies.ok.0) in (
      c.self.invariant.0,
      c.self.invariant.1,
      record {
        long = ap length new_items ∙ new_long ∙ beside.long;
        room = beside.room;
        capped = subst (AllByRecursion IsCapped) (sym new_items) (recursion_from_All IsCapped c.clear.new.tallies (λ k d lt. subst IsCapped (sym (c.clear.ensures.clear k lt d)) none_capped));
      },
      c.self.invariant.3,
      c.self.invariant.4,
    )

pub returns : goal.returns
returns c =
    let was = c.self.inside in
    let slots = was.slots.items in
    let order = was.order.items in
    let new = c.clear.new.tallies in
    let none : (slot : ℕ) → tally_in new slot ≡ no_tally = λ slot. elim (cases_lt slot (length new)) [
      | inl within ↦ c.clear.ensures.clear slot within no_tally
      | inr past ↦ get_or_past new slot no_tally past
    ] in
    let new_long = c.clear.ensures.long ∙ ap length c.deref_mut.ensures.value in
    let new_items = written was.tallies.items new was.tallies.len (new_long ∙ sym was.tallies.ok.0) (sym was.tallies.ok.0) in
    (λ i. record {
      index = was.index;
      next = was.next;
      objects = standing slots order;
      spare = was.spare;
      tallies = (tallied_equal {slots = slots} {order = order} refl new_items refl ∙ tallied_none slots new order none) i;
    }) ∙ ap (λ (t : Table). record t { tallies = no_tallies }) c.self.view_is
