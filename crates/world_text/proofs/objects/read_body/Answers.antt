use Rattle.std.proofs.Common.{◌≡◌, Some, refl, rules}
use Rattle.serde_json.specs.Find.{get}
use Rattle.serde_json.specs.View.{view}
use Rattle.world_form.specs.declared.field.Field.TheVariants as fields
use Rattle.world_form.specs.Keys.{key}
use Rattle.world_text.proofs.objects.read_body.Goals as goal

pub returns-in-None-clause-err : goal.returns-in-None-clause-err
returns-in-None-clause-err c =
    let found : get (key fields.Body) (view c.args.part.now) ≡ Some (view c.in-Some.value.now) = search rules in
    ((view c.in-Some.value.now, found, c.in-None.ensures), refl)
