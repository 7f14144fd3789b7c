use Rattle.std.proofs.Common.{◌+◌, ◌≡◌, ◌∙◌, length, ap, arith, refl, rules}
use Rattle.std.proofs.lemmas.Result.{err_from_is_err_and}
use Rattle.world_bytes.proofs.Fields.{body_length}
use Rattle.world_bytes.proofs.Intents.{intent_action, intent_begins, intent_short, leads_intent, behind_amount}
use Rattle.world_bytes.proofs.read.intent_ahead.Goals as goal

pub returns-in_err-action-clause-none : goal.returns-in_err-action-clause-none
returns-in_err-action-clause-none c =
    let p = err_from_is_err_and c.from_residual.result c.from_residual.ensures.1 in
    rw p.1 (λ intent rest begins.
    let leads = leads_intent c.args.player c.args.from.now.0 intent rest begins in
    let front = intent_action intent c.args.from.now.0 rest leads.whole in
    c.in_err-action.ensures.none intent.action front.0 front.1)

pub returns-in_err-actor-clause-none : goal.returns-in_err-actor-clause-none
returns-in_err-actor-clause-none c =
    let p = err_from_is_err_and c.from_residual-in_err-actor.result c.from_residual-in_err-actor.ensures.1 in
    rw p.1 (intent_short c.args.player c.args.from.now.0 (search rules))

pub returns-in_err-target-clause-none : goal.returns-in_err-target-clause-none
returns-in_err-target-clause-none c =
    let p = err_from_is_err_and c.from_residual-in_err-target.result c.from_residual-in_err-target.ensures.1 in
    rw p.1 (intent_short c.args.player c.args.from.now.0 (search rules))

pub returns-in_err-amount-clause-none : goal.returns-in_err-amount-clause-none
returns-in_err-amount-clause-none c =
    let p = err_from_is_err_and c.from_residual-in_err-amount.result c.from_residual-in_err-amount.ensures.1 in
    rw p.1 (intent_short c.args.player c.args.from.now.0 (search rules))

pub returns-in_err-body-clause-none : goal.returns-in_err-body-clause-none
returns-in_err-body-clause-none c =
    let p = err_from_is_err_and c.from_residual-in_err-body.result c.from_residual-in_err-body.ensures.1 in
    rw p.1 (λ intent rest begins.
    let leads = leads_intent c.args.player c.args.from.now.0 intent rest begins in
    let form = leads.form in
    let same = behind_amount intent c.in_ok-action.action c.in_ok-actor.actor c.in_ok-target.target c.in_ok-amount.amount c.args.from.now.0 c.read_action.new.from.0 c.u64.new.self.0 c.u64-2.new.self.0 c.u64-3.new.self.0 rest (search rules) (search rules) (search rules) c.in_ok-action.ensures.found c.in_ok-actor.ensures.found c.in_ok-target.ensures.found c.in_ok-amount.ensures.found form leads.whole in
    c.in_err-body.ensures.none intent.body rest (record { parts = form.parts }) same.behind)

pub returns-clause-found : goal.returns-clause-found
returns-clause-found c =
    let form = c.in_ok-body.ensures.found.0 in
    intent_begins c.args.player _ c.args.from.now.0 c.read_action.new.from.0 c.u64.new.self.0 c.u64-2.new.self.0 c.u64-3.new.self.0 c.read_body.new.from.0
    (record { parts = form.parts; player = search rules; actor = search rules; target = search rules; amount = search rules })
    refl c.in_ok-action.ensures.found c.in_ok-actor.ensures.found c.in_ok-target.ensures.found c.in_ok-amount.ensures.found c.in_ok-body.ensures.found.1

pub returns-clause-place : goal.returns-clause-place
returns-clause-place c =
    let five : length c.u64-3.new.self.0 ≡ 1 + length c.in_ok-body.body + length c.read_body.new.from.0 = ap length c.in_ok-body.ensures.found.1 ∙ body_length _ _ in
    omega (arith, ap length c.in_ok-action.ensures.found, ap length c.in_ok-actor.ensures.found, ap length c.in_ok-target.ensures.found, ap length c.in_ok-amount.ensures.found, c.in_ok-action.ensures.place, c.in_ok-actor.ensures.place, c.in_ok-target.ensures.place, c.in_ok-amount.ensures.place, c.in_ok-body.ensures.place)
