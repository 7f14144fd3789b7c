use Rattle.std.proofs.Common.{ap}
use Rattle.byte_fields.specs.Leb.{SpellsSigned}
use Rattle.byte_fields.proofs.Fronts.{signed_32, front_only, front_none, rest_behind, left_none}
use Rattle.byte_fields.proofs.Signed.{kept_32, fits_32}
use Rattle.byte_fields.proofs.cursor.Cursor.leb_s32.Goals as goal

pub returns-in_default-clause-bad : goal.returns-in_default-clause-bad
returns-in_default-clause-bad c = left_none (SpellsSigned 32) 5 c.self.inside.bytes.now c.args.self.now.0 c.self.inside.place signed_32 (ap (λ z. z.0) c.self.view_is) c.in_default.ensures.none

pub returns-in_default-signed_value-clause-bad : goal.returns-in_default-signed_value-clause-bad
returns-in_default-signed_value-clause-bad c =
    let whole = rest_behind c.self.inside.bytes.now c.args.self.now.0 c.in-Some.text.now c.self.inside.place (ap (λ z. z.0) c.self.view_is) c.in-Some.ensures.front in
    front_none (SpellsSigned 32) 5 c.args.self.now.0 c.in-Some.text.now _ signed_32 c.in-Some.ensures.whole c.in_default-signed_value.ensures.none whole

pub overflow_cast-result : goal.overflow_cast-result
overflow_cast-result c = fits_32 c.in-Some.text.now c.in-Some-signed_value.ensures.spelled

pub returns-clause-found : goal.returns-clause-found
returns-clause-found c =
    let whole = rest_behind c.self.inside.bytes.now c.args.self.now.0 c.in-Some.text.now c.self.inside.place (ap (λ z. z.0) c.self.view_is) c.in-Some.ensures.front in
    rw (kept_32 c.in-Some.text.now c.in-Some-signed_value.ensures.spelled) (c.in-Some.text.now, c.in-Some-signed_value.ensures.spelled, whole)

pub returns-clause-only : goal.returns-clause-only
returns-clause-only c =
    let whole = rest_behind c.self.inside.bytes.now c.args.self.now.0 c.in-Some.text.now c.self.inside.place (ap (λ z. z.0) c.self.view_is) c.in-Some.ensures.front in
    rw (kept_32 c.in-Some.text.now c.in-Some-signed_value.ensures.spelled) (front_only (SpellsSigned 32) 5 c.args.self.now.0 c.in-Some.text.now _ c.in-Some-signed_value.value signed_32 c.in-Some-signed_value.ensures.spelled whole)
