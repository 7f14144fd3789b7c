use Rattle.std.proofs.Common.{Bor, ◌≡◌, Some, option_map, sym, ap, subst, ◌∙◌}
use Rattle.object_store.specs.declared.account.Account.{Account}
use Rattle.object_store.specs.Stored.{find_account}
use Rattle.world_rules.specs.World.{world_of}
use Rattle.wasm_link.specs.Kept.{link_view}
use Rattle.intent_book.specs.declared.refusal.Refusal.{Refusal}
use Rattle.upload_stream.specs.Entries.{upload_of}
use Rattle.hosted_tick.specs.Next.{IsResult}
use Rattle.hosted_tick.proofs.Accounts.{is_player, is_no_player}
use Rattle.hosted_tick.proofs.Judged.{refused}
use Rattle.hosted_tick.proofs.judge.decide.Goals as goal

pub returns-in_default-clause-refused : goal.returns-in_default-clause-refused
returns-in_default-clause-refused c =
    is_no_player c.args.world.now c.args.upload.now.player (sym c.account.ensures ∙ ap (option_map (λ (a : Bor Account). a.now)) c.in_default.is)

pub returns-in-Ok-clause-accepted : goal.returns-in-Ok-clause-accepted
returns-in-Ok-clause-accepted c =
    let found : find_account c.args.upload.now.player c.args.world.now.accounts ≡ Some c.in-Some.field-0.now = sym c.account.ensures ∙ ap (option_map (λ (a : Bor Account). a.now)) c.in-Some.is in
    ((is_player c.args.world.now c.args.upload.now.player c.in-Some.field-0.now found, (link_view c.in-Ok.linked, c.in-Ok.ensures.accepted)), c.in-Ok.ensures.accepted)

pub returns-in_ok-unless_memory-in-Err-clause-refused : goal.returns-in_ok-unless_memory-in-Err-clause-refused
returns-in_ok-unless_memory-in-Err-clause-refused c =
    let found : find_account c.args.upload.now.player c.args.world.now.accounts ≡ Some c.in-Some.field-0.now = sym c.account.ensures ∙ ap (option_map (λ (a : Bor Account). a.now)) c.in-Some.is in
    let told = c.in_ok-unless_memory-in-Err.ensures in
    subst (λ (refusal : Refusal). IsResult (world_of c.args.world.now) (upload_of c.args.upload.now) (Some refusal)) (sym told.0)
    (refused (world_of c.args.world.now) (upload_of c.args.upload.now) c.in-Err.refusal (is_player c.args.world.now c.args.upload.now.player c.in-Some.field-0.now found) (c.in-Err.ensures.refused told.1))
