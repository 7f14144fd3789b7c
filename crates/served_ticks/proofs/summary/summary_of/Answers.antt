use Rattle.std.proofs.Common.{◌≡◌, ◌≤◌, List, length, map, ap, subst, sym, ◌∙◌, arith}
use Rattle.object_store.specs.declared.account.Account.{Account}
use Rattle.world_journal.specs.Recovering.{count_of}
use Rattle.served_ticks.specs.Summaries.{lines_with}
use Rattle.served_ticks.proofs.Lines.{lines_few, lines_mapped}
use Rattle.served_ticks.proofs.summary.summary_of.Goals as goal

pub returns : goal.returns
returns c = λ entries same.
    let accounts = c.args.world.now.accounts in
    let told = c.new.ensures in
    record {
      tick = told.world.0 ∙ c.tick.ensures;
      rooms = told.world.1 ∙ c.rooms.ensures;
      objects = told.world.2 ∙ c.object_count.ensures;
      energy = told.world.3 ∙ (c.most_energy-energy.ensures ∙ ap (λ n. Rattle.std.proofs.Common.min n 18446744073709551615) c.total_energy.ensures);
      lines = told.lines ∙ (c.deref.ensures.value ∙ (c.in_ok-lines.ensures
          ∙ (ap (λ (l : List Account). lines_with l c.args.counts.now) c.account_list.ensures.all
          ∙ (ap (lines_with accounts) same ∙ lines_mapped (count_of entries) accounts))));
    }

pub new-requires : goal.new-requires
new-requires c =
    let few = lines_few c.account_list.result.now c.args.counts.now in
    let is : length c.deref.result.now ≡ length (lines_with c.account_list.result.now c.args.counts.now) = ap length (c.deref.ensures.value ∙ c.in_ok-lines.ensures) in
    let many : length c.account_list.result.now ≡ length c.args.world.now.accounts = ap length c.account_list.ensures.all in
    omega (arith, few, is, many)
