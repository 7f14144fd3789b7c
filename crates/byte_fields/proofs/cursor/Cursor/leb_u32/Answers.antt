use Rattle.std.proofs.Common.{ap}
use Rattle.byte_fields.specs.Leb.{SpellsUnsigned}
use Rattle.byte_fields.proofs.Fronts.{unsigned_32, front_only, front_none, rest_behind, left_none}
use Rattle.byte_fields.proofs.cursor.Cursor.leb_u32.Goals as goal

pub returns-in_default-clause-bad : goal.returns-in_default-clause-bad
returns-in_default-clause-bad c = left_none (SpellsUnsigned 32) 5 c.self.inside.bytes.now c.args.self.now.0 c.self.inside.place unsigned_32 (ap (λ z. z.0) c.self.view_is) c.in_default.ensures.none

pub returns-in_default-unsigned_value-clause-bad : goal.returns-in_default-unsigned_value-clause-bad
returns-in_default-unsigned_value-clause-bad c =
    let whole = rest_behind c.self.inside.bytes.now c.args.self.now.0 c.in-Some.text.now c.self.inside.place (ap (λ z. z.0) c.self.view_is) c.in-Some.ensures.front in
    front_none (SpellsUnsigned 32) 5 c.args.self.now.0 c.in-Some.text.now _ unsigned_32 c.in-Some.ensures.whole c.in_default-unsigned_value.ensures.none whole

pub returns-clause-found : goal.returns-clause-found
returns-clause-found c =
    let whole = rest_behind c.self.inside.bytes.now c.args.self.now.0 c.in-Some.text.now c.self.inside.place (ap (λ z. z.0) c.self.view_is) c.in-Some.ensures.front in
    (c.in-Some.text.now, c.in-Some-unsigned_value.ensures.spelled, whole)

pub returns-clause-only : goal.returns-clause-only
returns-clause-only c =
    let whole = rest_behind c.self.inside.bytes.now c.args.self.now.0 c.in-Some.text.now c.self.inside.place (ap (λ z. z.0) c.self.view_is) c.in-Some.ensures.front in
    front_only (SpellsUnsigned 32) 5 c.args.self.now.0 c.in-Some.text.now _ c.in-Some-unsigned_value.value unsigned_32 c.in-Some-unsigned_value.ensures.spelled whole
