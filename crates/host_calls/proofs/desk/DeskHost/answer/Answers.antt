use Rattle.std.proofs.Common.{length, ap, ◌∙◌}
use Rattle.host_calls.specs.Replies.{Reply}
use Rattle.host_calls.proofs.Replying.{reply_size}
use Rattle.host_calls.proofs.desk.DeskHost.answer.Goals as goal

pub returns-clause-size : goal.returns-clause-size
returns-clause-size c =
    ap (λ (r : Reply). length r.memory.bytes) c.answer.ensures ∙ (reply_size c.args.call c.args.self.now c.args.pages.now c.args.args.now).0

pub returns-clause-limit : goal.returns-clause-limit
returns-clause-limit c =
    ap (λ (r : Reply). r.memory.limit) c.answer.ensures ∙ (reply_size c.args.call c.args.self.now c.args.pages.now c.args.args.now).1
