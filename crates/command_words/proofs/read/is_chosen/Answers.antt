use Rattle.std.proofs.Common.{◌≡◌, ◌∙◌, true, sym, string_bytes}
use Rattle.std.proofs.lemmas.Slice.Eq.{bytes_eq-Decides}
use Rattle.command_words.proofs.First.{begun, first_word}
use Rattle.command_words.proofs.read.is_chosen.Goals as goal

pub returns-in-Some-clause-chosen : goal.returns-in-Some-clause-chosen
returns-in-Some-clause-chosen c =
    λ equal. begun string_bytes c.args.words.now c.in-Some.first.now c.args.word.now c.in-Some.ensures.value
    (sym c.as_str.ensures.value
    ∙ (bytes_eq-Decides c.as_str.result.now c.args.word.now).0 (sym c.eq.ensures ∙ equal))

pub returns-in-Some-clause-other : goal.returns-in-Some-clause-other
returns-in-Some-clause-other c = λ unequal rest begins.
    let same = first_word string_bytes c.args.words.now c.in-Some.first.now c.args.word.now rest
    c.in-Some.ensures.value begins in
    let equal : c.eq.result ≡ true = c.eq.ensures
    ∙ (bytes_eq-Decides c.as_str.result.now c.args.word.now).1 (c.as_str.ensures.value ∙ same) in
    cc
