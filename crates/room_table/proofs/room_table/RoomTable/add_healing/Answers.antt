use Rattle.std.proofs.Common.{◌≡◌, ◌<◌, ◌≤◌, List, length, sym, ap, subst, ◌∙◌, arith, length-set}
use Rattle.std.proofs.lemmas.List.{get_or_read}
use Rattle.room_table.specs.declared.object.Object.{Object}
use Rattle.room_table.specs.declared.tally.Tally.{Tally}
use Rattle.room_table.specs.Tables.{Table}
use Rattle.room_table.specs.Tallies.{healed, most_sum, no_tally}
use Rattle.room_table.specs.inner.Placed.{standing, StandsIn}
use Rattle.room_table.specs.inner.Tallied.{tally_in}
use Rattle.room_table.proofs.Tallied.{capped_in}
use Rattle.room_table.proofs.TallyChanges.{capped_set, healed_there}
use Rattle.room_table.proofs.room_table.RoomTable.add_healing.Goals as goal

pub invariant_of-self : goal.invariant_of-self
invariant_of-self c =
    let was = c.self.inside in
    let slot = c.slot_of-slot.result in
    let tallies = was.tallies.items in
    let beside = c.self.invariant.2 in
    let known : slot < length tallies = subst (λ n. slot < n) (sym beside.long) (subst (λ (os : List Object). slot < length os) c.deref.ensures.value c.slot_of-slot.ensures.known) in
    let read : c.index-tally.result.now ≡ tally_in tallies slot = get_or_read tallies slot c.index-tally.result.now known c.index-tally.ensures no_tally in
    let was_capped = capped_in tallies slot beside.capped in
    let tally : Tally = record { damage = c.index-tally.result.now.damage; healing = c.saturating_add.result } in (
      c.self.invariant.0,
      c.self.invariant.1,
      record {
        long = length-set tallies slot tally ∙ beside.long;
        room = beside.room;
        capped = capped_set tallies slot tally beside.capped (record {
          healing = omega (arith, c.saturating_add.ensures);
          damage = subst (λ (t : Tally). t.damage ≤ most_sum) (sym read) was_capped.damage;
        });
      },
      c.self.invariant.3,
      c.self.invariant.4,
    )

pub returns : goal.returns
returns c =
    let was = c.self.inside in
    let slot = c.slot_of-slot.result in
    let slots = was.slots.items in
    let order = was.order.items in
    let tallies = was.tallies.items in
    let beside = c.self.invariant.2 in
    let id = c.args.id in
    let known : slot < length tallies = subst (λ n. slot < n) (sym beside.long) (subst (λ (os : List Object). slot < length os) c.deref.ensures.value c.slot_of-slot.ensures.known) in
    let read : c.index-tally.result.now ≡ tally_in tallies slot = get_or_read tallies slot c.index-tally.result.now known c.index-tally.ensures no_tally in
    let stands = subst (λ os. StandsIn id slots os slot) c.deref-2.ensures.value (subst (λ ss. StandsIn id ss c.deref-2.result.now slot) c.deref.ensures.value c.slot_of-slot.ensures.stands) in
    let done = healed_there slots tallies order id slot c.args.n c.saturating_add.result c.index-tally.result.now c.self.invariant.0.rising stands known read c.saturating_add.ensures in
    (λ i. record {
      index = was.index;
      next = was.next;
      objects = standing slots order;
      spare = was.spare;
      tallies = done i;
    }) ∙ ap (λ (t : Table). record t { tallies = healed c.args.id c.args.n t.tallies }) c.self.view_is
