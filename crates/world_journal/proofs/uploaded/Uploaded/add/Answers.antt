use Rattle.std.proofs.Common.{◌≡◌, ◌∙◌, ap, sym, length, map, subst, rules}
use Rattle.std.proofs.lemmas.List.{with_items_is}
use Rattle.world_journal.specs.inner.Counting.{counted}
use Rattle.world_journal.proofs.Counts.{counts_more, counted_player, rises_counted}
use Rattle.world_journal.proofs.Modules.{modules_kept, modules_put, modules_stay}
use Rattle.world_journal.proofs.uploaded.Uploaded.add.Goals as goal
use Rattle.room_table.specs.inner.Ordered.{Rises}

pub returns-in_ok-insert-clause-added : goal.returns-in_ok-insert-clause-added
returns-in_ok-insert-clause-added c = λ accounts uploads has.
    let old = c.args.self.now.modules.entries in
    let new = c.insert.new.self.entries in
    record {
      modules = modules_kept old new uploads c.args.upload has.modules c.if-upload-eq0.true (modules_put old new c.args.upload.player c.args.upload.bytes (λ q. c.in_ok-insert.ensures.updates.0 q));
      counts = (
          let filled : length c.count_upload.new.counts ≡ length c.deref_mut.result.now = search rules in
          with_items_is c.args.self.now.counts c.count_upload.new.counts (filled ∙ c.deref_mut.ensures.len) ∙ c.count_upload.ensures ∙ ap (map (counted c.args.upload.player c.args.upload.result_number)) (c.deref_mut.ensures.value ∙ has.counts)
          ∙ counts_more accounts uploads c.args.upload);
    }

pub returns-in_ok-insert-clause-rising : goal.returns-in_ok-insert-clause-rising
returns-in_ok-insert-clause-rising c =
    let filled : length c.count_upload.new.counts ≡ length c.deref_mut.result.now = search rules in
    let whole = with_items_is c.args.self.now.counts c.count_upload.new.counts (filled ∙ c.deref_mut.ensures.len) ∙ c.count_upload.ensures ∙ ap (map (counted c.args.upload.player c.args.upload.result_number)) c.deref_mut.ensures.value in
    subst (Rises counted_player) (sym whole) (rises_counted c.args.upload.player c.args.upload.result_number c.args.self.now.counts.items c.requires)

pub returns-else-upload-eq0-clause-added : goal.returns-else-upload-eq0-clause-added
returns-else-upload-eq0-clause-added c = λ accounts uploads has. record {
  modules = modules_stay c.args.self.now.modules.entries uploads c.args.upload has.modules c.if-upload-eq0.false;
  counts = (
      let filled : length c.count_upload.new.counts ≡ length c.deref_mut.result.now = search rules in
      with_items_is c.args.self.now.counts c.count_upload.new.counts (filled ∙ c.deref_mut.ensures.len) ∙ c.count_upload.ensures ∙ ap (map (counted c.args.upload.player c.args.upload.result_number)) (c.deref_mut.ensures.value ∙ has.counts)
      ∙ counts_more accounts uploads c.args.upload);
}

pub returns-else-upload-eq0-clause-rising : goal.returns-else-upload-eq0-clause-rising
returns-else-upload-eq0-clause-rising c =
    let filled : length c.count_upload.new.counts ≡ length c.deref_mut.result.now = search rules in
    let whole = with_items_is c.args.self.now.counts c.count_upload.new.counts (filled ∙ c.deref_mut.ensures.len) ∙ c.count_upload.ensures ∙ ap (map (counted c.args.upload.player c.args.upload.result_number)) c.deref_mut.ensures.value in
    subst (Rises counted_player) (sym whole) (rises_counted c.args.upload.player c.args.upload.result_number c.args.self.now.counts.items c.requires)
