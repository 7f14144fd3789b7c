use Rattle.std.proofs.Common.{◌<◌, take, drop, length, get_or, refl, sym, arith}
use Rattle.std.proofs.lemmas.List.{take-append-drop}
use Rattle.wat_grammar.specs.Tokens.{right_byte}
use Rattle.wat_grammar.proofs.Lexing.{closing_starts, space_passes, word_starts}
use Rattle.wat_tokens.proofs.Scans.{first_of, head_is, length_taken, run_is_some, not_empty}
use Rattle.wat_tokens.proofs.front.front_of.Goals as goal

pub returns-in-41 : goal.returns-in-41
returns-in-41 c =
    let rest = c.args.rest.now in
    let some : 0 < length rest = not_empty rest c.if-is_empty.ensures in
    (some, closing_starts rest (drop 1 rest) (head_is rest right_byte some c.in-41.is))

pub returns-in_default : goal.returns-in_default
returns-in_default c =
    let rest = c.args.rest.now in
    let some : 0 < length rest = not_empty rest c.if-is_empty.ensures in
    (omega arith, some, space_passes rest (drop 1 rest) (get_or rest 0 0) (first_of rest 0 some) (c.if-is_space.ensures.yes refl))

pub returns-in_default-2 : goal.returns-in_default-2
returns-in_default-2 c =
    let rest = c.args.rest.now in
    let count = c.word_length.result in
    let some : 0 < length rest = not_empty rest c.if-is_empty.ensures in
    let one : 0 < count = run_is_some rest count some (c.if-is_word_byte.ensures.yes refl) c.word_length.ensures.longest in
    (one, c.word_length.ensures.within, word_starts rest (take count rest) (drop count rest) (sym (take-append-drop count rest)) (length_taken rest count one c.word_length.ensures.within) c.word_length.ensures.word c.word_length.ensures.longest)
