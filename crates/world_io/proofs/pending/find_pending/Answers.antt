use Rattle.std.proofs.Common.{rules, arith, ◌≡◌, ◌++◌, ◌+◌, ◌^◌, [], ◌∷◌, take, length, refl}
use Rattle.world_io.specs.Changes.{moments_of, latest}
use Rattle.world_io.specs.Disk.{written_at}
use Rattle.world_io.proofs.Undo.{undo_wrote, undo_grew, within_greatest, none_undone}
use Rattle.world_io.proofs.pending.find_pending.Goals as goal

pub loop-left-init : goal.loop-left-init
loop-left-init c =
    let synced : c.in_ok-synced.synced.items ≡ c.args.bytes.now = search rules in
    record {
      within = omega arith;
      undone = rw (synced, c.new-written.ensures.items)
          (none_undone (latest (moments_of c.args.bytes.now c.args.calls.now)) c.args.bytes.now c.args.calls.now
          refl c.requires.left);
    }

pub put_over-requires : goal.put_over-requires
put_over-requires c =
    let undone = undo_wrote c.loop-left.invariant.undone c.loop-left-test.true c.loop-left.invariant.within
    c.index-calls-left.is c.in-Wrote.at c.in-Wrote.over c.in-Wrote.is in
    rw c.deref.ensures.value
    (within_greatest c.loop-left.greatest (c.in-Wrote.at + length c.in-Wrote.over.items) (2 ^ 62) undone
    c.requires.limit)

pub overflow_add-at : goal.overflow_add-at
overflow_add-at c =
    let undone = undo_wrote c.loop-left.invariant.undone c.loop-left-test.true c.loop-left.invariant.within
    c.index-calls-left.is c.in-Wrote.at c.in-Wrote.over c.in-Wrote.is in
    let within = within_greatest c.loop-left.greatest (c.in-Wrote.at + length c.in-Wrote.over.items) (2 ^ 62)
    undone c.requires.limit in
    search (rules, within)

pub loop-left-preserved-in-Wrote : goal.loop-left-preserved-in-Wrote
loop-left-preserved-in-Wrote c =
    let undone = undo_wrote c.loop-left.invariant.undone c.loop-left-test.true c.loop-left.invariant.within
    c.index-calls-left.is c.in-Wrote.at c.in-Wrote.over c.in-Wrote.is in
    let ranges : c.push.new.self.items ≡ c.loop-left.written.items ++
    (c.in-Wrote.at, length c.in-Wrote.over.items) ∷ [] = search rules in
    let longest : c.len-in-Wrote.result ≡ length c.in-Wrote.over.items = search rules in
    let synced : c.put_over.new.bytes.items ≡ written_at c.in-Wrote.at c.in-Wrote.over.items
    c.loop-left.synced.items = search rules in
    record {
      within = omega (arith, c.loop-left.invariant.within);
      undone =
          rw (ranges, c.max-greatest.ensures, longest, synced) undone;
    }

pub overflow_add-at-in-Grew : goal.overflow_add-at-in-Grew
overflow_add-at-in-Grew c =
    let undone = undo_grew c.loop-left.invariant.undone c.loop-left-test.true c.loop-left.invariant.within
    c.index-calls-left.is c.in-Grew.at c.in-Grew.count c.in-Grew.over c.in-Grew.is in
    let within = within_greatest c.loop-left.greatest (c.in-Grew.at + c.in-Grew.count) (2 ^ 62) undone
    c.requires.limit in
    search (rules, within)

pub loop-left-preserved-in-Grew : goal.loop-left-preserved-in-Grew
loop-left-preserved-in-Grew c =
    let undone = undo_grew c.loop-left.invariant.undone c.loop-left-test.true c.loop-left.invariant.within
    c.index-calls-left.is c.in-Grew.at c.in-Grew.count c.in-Grew.over c.in-Grew.is in
    let ranges : c.push-in-Grew.new.self.items ≡ c.loop-left.written.items ++ (c.in-Grew.at, c.in-Grew.count) ∷
    [] = search rules in
    let synced : c.extend_from_slice.new.self.items ≡ take c.in-Grew.at
    c.loop-left.synced.items ++ c.in-Grew.over.items = search rules in
    record {
      within = omega (arith, c.loop-left.invariant.within);
      undone =
          rw (ranges, c.max-greatest-in-Grew.ensures, synced) undone;
    }
