use Rattle.std.proofs.Common.{refl, arith}
use Rattle.wat_grammar.specs.Tokens.{IsWordByte}
use Rattle.wat_tokens.proofs.Scans.{all_one_more}
use Rattle.wat_tokens.proofs.scan.word_length.Goals as goal

pub each-preserved : goal.each-preserved
each-preserved c = (omega arith, all_one_more IsWordByte c.args.rest.now c.each.count (omega arith) c.each.invariant.1 (c.if-is_word_byte.ensures.yes refl))
