use Rattle.std.proofs.Common.{Some, refl}
use Rattle.std.proofs.lemmas.Result.{IfErr-at_err}
use Rattle.world_rules.specs.World.{world_of}
use Rattle.intent_book.specs.declared.refusal.Refusal.{Refusal}
use Rattle.upload_stream.specs.Entries.{upload_of}
use Rattle.hosted_tick.specs.Next.{IsResult}
use Rattle.hosted_tick.proofs.judge.settle.Goals as goal

pub returns-in-Err-clause-settled : goal.returns-in-Err-clause-settled
returns-in-Err-clause-settled c =
    (Some c.in-Err.refusal, IfErr-at_err (λ (refusal : Refusal). IsResult (world_of c.args.world.now) (upload_of c.args.upload.now) (Some refusal)) c.in-Err.is c.in_ok-linked.ensures.refused, c.number.ensures, refl)
