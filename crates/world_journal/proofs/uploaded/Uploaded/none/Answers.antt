use Rattle.std.proofs.Common.{subst, sym}
use Rattle.room_table.specs.inner.Ordered.{Rises}
use Rattle.world_journal.proofs.Counts.{counted_player, rising_none}
use Rattle.world_journal.proofs.uploaded.Uploaded.none.Goals as goal

pub returns-clause-rising : goal.returns-clause-rising
returns-clause-rising c = subst (Rises counted_player) (sym c.in_ok-no_uploads.ensures) (rising_none c.args.accounts.now c.requires)
