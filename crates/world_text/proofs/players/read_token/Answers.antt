use Rattle.std.proofs.Common.{◌≡◌, List, ℕ, Option, Some, refl, subst, rules}
use Rattle.serde_json.specs.Find.{get}
use Rattle.serde_json.specs.View.{view}
use Rattle.world_form.specs.declared.field.Field.TheVariants as fields
use Rattle.world_form.specs.Facts.{IsTokenText}
use Rattle.world_form.specs.Keys.{key}
use Rattle.world_text.specs.inner.Readings.{Reads}
use Rattle.world_text.proofs.players.read_token.Goals as goal

pub returns-in-None-clause-err : goal.returns-in-None-clause-err
returns-in-None-clause-err c = λ other.
    let value = view c.in-Some.value.now in
    let found : get (key fields.Token) (view c.args.part.now) ≡ Some value = search rules in
    ((value, found, subst (λ (said : Option (List ℕ)). Reads (IsTokenText value) said) c.in-None.is c.in_ok-token.ensures), refl)
