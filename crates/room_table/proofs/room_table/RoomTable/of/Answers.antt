use Rattle.std.proofs.Common.{◌≡◌, List, length, replicate, sym, ap, subst, ◌∙◌, arith, IfOk}
use Rattle.std.specs.FinMap.{from_entries}
use Rattle.std.specs.List.{AllByRecursion}
use Rattle.std.proofs.lemmas.List.{length-replicate}
use Rattle.room_table.specs.declared.tally.Tally.{Tally}
use Rattle.room_table.specs.Tables.{Table}
use Rattle.room_table.specs.Tallies.{no_tallies, no_tally}
use Rattle.room_table.specs.inner.Tallied.{done_to, IsCapped}
use Rattle.room_table.proofs.TallyChanges.{capped_replicate, done_replicate}
use Rattle.room_table.proofs.room_table.RoomTable.of.Goals as goal

pub filled-requires-clause-beside : goal.filled-requires-clause-beside
filled-requires-clause-beside c =
    let n = c.len.result in
    let count : n ≡ length c.args.objects.items = omega (arith, c.len.ensures, c.args.objects.ok.0) in
    let tallies : c.in_ok-tallies.tallies.items ≡ replicate n no_tally = c.in_ok-tallies.ensures.tallies in record {
      long = ap length tallies ∙ length-replicate n no_tally ∙ count;
      room = omega (arith, count, c.in_ok-tallies.ensures.room);
      capped = subst (AllByRecursion IsCapped) (sym tallies) (capped_replicate n);
    }

pub returns : goal.returns
returns c =
    let n = c.len.result in
    let objects = c.args.objects.items in
    let tallies : c.in_ok-tallies.tallies.items ≡ replicate n no_tally = c.in_ok-tallies.ensures.tallies in
    let none : from_entries (done_to objects c.in_ok-tallies.tallies.items) ≡ no_tallies = ap (λ (ts : List Tally). from_entries (done_to objects ts)) tallies ∙ ap (λ es. from_entries es) (done_replicate objects n) in
    subst (λ (t : Table). IfOk c.filled.result (λ table. table ≡ t)) (λ i. record {
      index = c.args.index;
      next = c.args.next;
      objects = objects;
      spare = 0;
      tallies = none i;
    }) c.filled.ensures
