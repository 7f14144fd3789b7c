use Rattle.std.proofs.Common.{◌++◌, [], ◌∷◌, List, ap, map, sym, ◌∙◌, append_assoc}
use Rattle.std.proofs.lemmas.List.{append-nil}
use Rattle.judged_uploads.specs.Entries.{entry_of}
use Rattle.object_store.specs.declared.account.Account.{Account}
use Rattle.tick_journal.specs.declared.entries.UploadEntry.{UploadEntry}
use Rattle.world_journal.specs.declared.recovered.UploadCount.{UploadCount}
use Rattle.world_journal.specs.inner.Counting.{count_for, counted}
use Rattle.world_journal.proofs.Counts.{counts_more}
use Rattle.served_ticks.proofs.counts.count_all.Goals as goal

abbrev counts_for : List Account → List UploadEntry → List UploadCount
counts_for accounts uploads = map (λ account. count_for account.player uploads) accounts

pub each-init : goal.each-init
each-init c = record {
  done = [];
  split = sym c.entries-left.ensures;
  counted = λ accounts before is. is ∙ ap (counts_for accounts) (sym (append-nil before));
}

pub each-preserved : goal.each-preserved
each-preserved c =
    let so_far = c.each.invariant in
    let entry : UploadEntry = entry_of c.in-Some.entry in
    record {
      done = so_far.done ++ entry ∷ [];
      split = so_far.split ∙ (ap (λ (l : List UploadEntry). so_far.done ++ l) c.in-Some.ensures.some ∙ sym (append_assoc so_far.done (entry ∷ []) c.next.new.self));
      counted = λ accounts before is.
          c.in_ok-after.ensures
          ∙ (ap (map (counted entry.player entry.result_number)) (c.deref.ensures.value ∙ so_far.counted accounts before is)
          ∙ (counts_more accounts (before ++ so_far.done) entry ∙ ap (counts_for accounts) (append_assoc before so_far.done (entry ∷ []))));
    }

pub returns : goal.returns
returns c = λ accounts before is.
    let so_far = c.each.invariant in
    let all = so_far.split ∙ (ap (λ (l : List UploadEntry). so_far.done ++ l) c.in_default.ensures.none ∙ append-nil so_far.done) in
    so_far.counted accounts before is ∙ ap (λ (l : List UploadEntry). counts_for accounts (before ++ l)) (sym all)
