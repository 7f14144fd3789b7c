use Rattle.std.proofs.Common.{ltb, rules, tests, arith, ap, ◌∙◌}
use Rattle.std.proofs.lemmas.List.{get_or_default}
use Rattle.std.proofs.lemmas.List.Sorted.{IsPartitionPoint-from_clause, IsPartitionedBy-ltb}
use Rattle.room_table.proofs.Rising.{non_decreasing, parted, place_from_tests}
use Rattle.world_journal.proofs.Counts.{counted_absent, counted_at, counted_here, counted_player}
use Rattle.world_journal.proofs.uploaded.count_upload.Goals as goal
use Rattle.world_journal.proofs.uploaded.count_upload.Goals.{else-place-counts-via-then-place-counts+else-counts-place, else-place-counts-via-else-place-counts}

pub returns-then-counts-place : goal.returns-then-counts-place
returns-then-counts-place c =
    let is = counted_here c.args.player c.args.result_number _ c.saturating_add.result c.if-counts-place.true c.saturating_add.ensures in
    counted_at c.args.player c.args.result_number c.args.counts.now c.partition_point-place.result _ _ c.requires c.if-place-counts.true c.if-counts-place.true is

pub returns-else-place-counts : goal.returns-else-place-counts
returns-else-place-counts c =
    let counts = c.args.counts.now in
    let rising = non_decreasing counted_player counts c.requires in
    let point = place_from_tests counted_player c.args.player counts _ (IsPartitionPoint-from_clause (λ a. ltb a.player c.args.player) counts _ c.partition_point-place.ensures.partitioned (IsPartitionedBy-ltb counted_player counts c.args.player rising) (λ a r q k. search (rules, tests))) in
    counted_absent c.args.player c.args.result_number counts c.partition_point-place.result c.requires (parted counted_player c.args.player counts c.partition_point-place.result (omega arith) point) (
    elim c.else-place-counts.branch [
      | else-place-counts-via-then-place-counts+else-counts-place w ↦ λ d lt here. w.if-counts-place.false (ap counted_player (get_or_default counts c.partition_point-place.result _ d lt) ∙ here)
      | else-place-counts-via-else-place-counts w ↦ λ d lt. absurd (omega arith)
    ])
