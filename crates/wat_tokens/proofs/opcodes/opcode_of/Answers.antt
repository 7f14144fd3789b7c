use Rattle.std.proofs.Common.{◌≡◌, ℕ, sym, ◌∙◌, arith}
use Rattle.wat_tokens.proofs.Slots.{word_found, word_stands}
use Rattle.wat_tokens.proofs.opcodes.opcode_of.Goals as goal
use Rattle.wat_tokens.proofs.opcodes.opcode_of.Goals.{else-place-lt109-via-then-place-lt109+else-is_word_at, else-place-lt109-via-else-place-lt109}

pub returns-then-is_word_at-clause-found : goal.returns-then-is_word_at-clause-found
returns-then-is_word_at-clause-found c =
    let place = c.place_of-place.result in
    rw c.code_at.ensures (word_found place c.args.word.now c.if-place-lt109.true (c.is_word_at.ensures.0 c.if-is_word_at.true))

pub returns-else-place-lt109-clause-none : goal.returns-else-place-lt109-clause-none
returns-else-place-lt109-clause-none c = λ code is.
    let stands = word_stands code c.args.word.now c.place_of-place.result is c.place_of-place.ensures in
    elim c.else-place-lt109.branch [
      | else-place-lt109-via-then-place-lt109+else-is_word_at w ↦ let yes = w.is_word_at.ensures.1 stands.1 in let not = w.if-is_word_at.false in grind (arith, yes, not)
      | else-place-lt109-via-else-place-lt109 w ↦ let h = w.if-place-lt109.false in let s = stands.0 in omega (arith, h, s)
    ]
