use Rattle.std.proofs.Common.{refl}
use Rattle.wat_grammar.specs.Words.{words}
use Rattle.wat_tokens.specs.inner.Slots.{words_in_order}
use Rattle.wat_tokens.proofs.Slots.{now_at}
use Rattle.wat_tokens.proofs.opcodes.word_at.Goals as goal

pub returns : goal.returns
unfolding words_in_order words
returns c = rw now_at refl
