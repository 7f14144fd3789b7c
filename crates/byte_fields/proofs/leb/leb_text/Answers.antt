use Rattle.std.proofs.Common.{arith, ◌+◌, drop, take-append-drop, sym}
use Rattle.byte_fields.proofs.Texts.{text_none, text_up_to}
use Rattle.byte_fields.proofs.leb.leb_text.Goals as goal

pub returns-then-bytes-last-lt128-clause-whole : goal.returns-then-bytes-last-lt128-clause-whole
returns-then-bytes-last-lt128-clause-whole c = text_up_to c.args.bytes.now c.loop-last.last (omega arith) c.if-bytes-last-lt128.true c.loop-last.invariant

pub returns-then-bytes-last-lt128-clause-front : goal.returns-then-bytes-last-lt128-clause-front
returns-then-bytes-last-lt128-clause-front c = (drop (c.loop-last.last + 1) c.args.bytes.now, sym (take-append-drop (c.loop-last.last + 1) c.args.bytes.now))

pub returns-clause-none : goal.returns-clause-none
returns-clause-none c = λ text rest t h e. text_none c.args.bytes.now text rest c.args.most (λ k p. c.loop-last.invariant k (omega arith)) t h e
