use Rattle.std.proofs.Common.{refl}
use Rattle.wat_grammar.specs.Words.{words}
use Rattle.wat_tokens.specs.inner.Slots.{codes_in_order}
use Rattle.wat_tokens.proofs.opcodes.code_at.Goals as goal

pub returns : goal.returns
unfolding codes_in_order words
returns c = refl
