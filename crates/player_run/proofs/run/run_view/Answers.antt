use Rattle.std.proofs.Common.{◌≤◌, ℕ, ap, sym, subst, ◌∙◌, IsPermutation}
use Rattle.object_store.specs.declared.account.Account.{Account}
use Rattle.intent_book.specs.Records.{IsCanonical, Record}
use Rattle.player_run.specs.Emitted.{fuel_of}
use Rattle.player_run.proofs.Emitting.{begins, distinct_before, emits, uses_within}
use Rattle.player_run.proofs.run.run_view.Goals as goal

pub returns-clause-emitted : goal.returns-clause-emitted
returns-clause-emitted c =
    let sight = c.args.view.now in
    let desk = c.in_ok-desk.desk in
    let later = c.run.new.host in
    let outcome = c.in_ok-outcome.outcome in
    let intents = c.in_ok-intents.intents in
    let account = c.account-account.ensures in
    let begun = begins sight desk c.args.player c.as_slice.result.now c.in_ok-desk.ensures c.requires.own (c.as_slice.ensures ∙ ap (λ (z : Account). z.memory) account) in
    let same = subst (λ (z : Record). IsPermutation z.entries intents) c.book.ensures c.in_ok-intents.ensures.same in
    let single = distinct_before later.book.entries intents same c.in_ok-intents.ensures.distinct in
    let canonical = subst (λ (z : Record). IsCanonical z.entries intents) c.book.ensures (c.in_ok-intents.ensures.same, c.in_ok-intents.ensures.sorted) in
    emits c.args.linked.now sight desk later c.fuel.result outcome c.in_ok-outcome.ensures.runs begun (c.fuel.ensures ∙ ap fuel_of account) _
    c.requires.own c.run_outcome.ensures c.instructions.ensures single canonical (c.in_ok-memory.ensures ∙ c.memory.ensures.text)

pub returns-clause-used : goal.returns-clause-used
returns-clause-used c =
    let within = uses_within c.args.linked.now c.args.view.now c.in_ok-desk.desk c.run.new.host c.fuel.result c.in_ok-outcome.outcome c.in_ok-outcome.ensures.runs (c.fuel.ensures ∙ ap fuel_of c.account-account.ensures) in
    subst (λ (z : ℕ). z ≤ fuel_of c.args.view.now.account) (sym c.instructions.ensures) within
