use Rattle.std.proofs.Common.{◌≡◌, ◌<◌, [], ◌∷◌, ◌++◌, map, length, get_or, sym, ap, ap₂, ◌∙◌}
use Rattle.std.proofs.lemmas.List.{get_or_default, map-append, take_more}
use Rattle.world_form.specs.Digits.{ground_digit}
use Rattle.world_text.proofs.Passes.{not_mapped}
use Rattle.world_text.proofs.values.grounds_of.Goals as goal

pub returns-in_default : goal.returns-in_default
returns-in_default c = λ said e.
    let text = c.args.text.now in
    let i = c.loop-digit.digit-index in
    let inside : i < length text = rw c.as_bytes-digit-items.ensures.value at c.loop-digit-test.true in
    not_mapped ground_digit text said i (get_or text i 0) inside (get_or_default text i 0 (get_or text i 0) inside) (rw c.as_bytes-digit-items.ensures.value at c.in_default.ensures) e

pub loop-digit-preserved : goal.loop-digit-preserved
loop-digit-preserved c =
    let text = c.args.text.now in
    let i = c.loop-digit.digit-index in
    let inside : i < length text = rw c.as_bytes-digit-items.ensures.value at c.loop-digit-test.true in
    let digit : get_or text i 0 ≡ ground_digit c.in-Some.ground =
    rw c.as_bytes-digit-items.ensures.value at c.in-Some.ensures in
    take_more text i 0 inside
    ∙ ap₂ (λ a b. a ++ b ∷ []) c.loop-digit.invariant digit
    ∙ sym (map-append ground_digit c.loop-digit.grounds.items (c.in-Some.ground ∷ []))
    ∙ ap (map ground_digit) (sym c.in_ok-push.ensures.items)
