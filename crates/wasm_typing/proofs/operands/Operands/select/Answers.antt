use Rattle.std.proofs.Common.{◌∷◌}
use Rattle.wasm_typing.proofs.Images.{select_image, select_none}
use Rattle.wasm_typing.proofs.operands.Operands.select.Goals as goal

pub returns-then-not-pop_types : goal.returns-then-not-pop_types
returns-then-not-pop_types c = λ cx labels. select_none _ (λ t below m. c.if-not-pop_types.ensures.refused (t ∷ t ∷ below) m)

pub returns-in_default : goal.returns-in_default
returns-in_default c = λ cx labels. select_none _ (λ t below m. c.in_default.ensures.refused t (t ∷ below) (c.if-not-pop_types.ensures.back (t ∷ t ∷ below) m))

pub returns-in_default-pop : goal.returns-in_default-pop
returns-in_default-pop c = λ cx labels. select_none _ (λ t below m. c.in_default-pop.ensures.refused t below (c.in-Some.ensures.back t (t ∷ below) (c.if-not-pop_types.ensures.back (t ∷ t ∷ below) m)).1)

pub returns-in_default-joined : goal.returns-in_default-joined
returns-in_default-joined c = λ cx labels. select_none _ (λ t below m.
    let first = c.in-Some.ensures.back t (t ∷ below) (c.if-not-pop_types.ensures.back (t ∷ t ∷ below) m) in
    c.in_default-joined.ensures t first.0 (c.in-Some-pop.ensures.back t below first.1).0)

pub returns : goal.returns
returns c = λ cx labels. select_image c.in-Some.one c.in-Some-pop.other c.in-Some-joined.entry c.if-not-pop_types.ensures c.in-Some.ensures c.in-Some-pop.ensures c.in-Some-joined.ensures c.in_ok-push.ensures
