use Rattle.std.proofs.Common.{◌+◌, ◌<◌, ◌≤◌, ℕ, length, take, sym, subst, arith}
use Rattle.std.specs.declared.alloc.Global.{Global}
use Rattle.std.specs.declared.vec.Vec.{Vec}
use Rattle.ruled_tick.specs.inner.Entered.{AreCounts}
use Rattle.ruled_tick.proofs.Counting.{counted_more, counted_past, now_few}
use Rattle.ruled_tick.proofs.act.counts_of.Goals as goal
use Rattle.ruled_tick.proofs.act.counts_of.Goals.{then-index-len, else-index-len}

pub overflow_add-index_mut : goal.overflow_add-index_mut
overflow_add-index_mut c =
    let there : c.entry-item.result.room < length c.loop-entry.counts.items = omega arith in
    omega (arith, now_few c.args.rooms c.args.entries.now c.loop-entry.entry-index c.entry-item.result c.loop-entry.counts.items c.loop-entry.invariant c.loop-entry-test.true c.entry-item.is c.index_mut.result.now c.index_mut.ensures.value there c.requires.few)

pub loop-entry-preserved : goal.loop-entry-preserved
loop-entry-preserved c =
    let seen = take (c.loop-entry.entry-index + 1) c.args.entries.now in
    elim c.if-index-len.branch [
      | then-index-len w ↦
          let there : c.entry-item.result.room < length c.loop-entry.counts.items = omega arith in
          subst (λ (counts : Vec ℕ Global). AreCounts c.args.rooms seen counts.items) (sym w.counts-is)
          (counted_more c.args.rooms c.args.entries.now c.loop-entry.entry-index c.entry-item.result c.loop-entry.counts.items c.loop-entry.invariant c.loop-entry-test.true c.entry-item.is w.index_mut.result.now w.index_mut.ensures.value there)
      | else-index-len w ↦
          let past : length c.loop-entry.counts.items ≤ c.entry-item.result.room = omega arith in
          subst (λ (counts : Vec ℕ Global). AreCounts c.args.rooms seen counts.items) (sym w.counts-is)
          (counted_past c.args.rooms c.args.entries.now c.loop-entry.entry-index c.entry-item.result c.loop-entry.counts.items c.loop-entry.invariant c.loop-entry-test.true c.entry-item.is past)
    ]
