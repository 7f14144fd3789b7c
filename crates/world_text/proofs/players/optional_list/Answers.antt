use Rattle.std.proofs.Common.{◌≡◌, Some, refl, rules}
use Rattle.serde_json.specs.Find.{get}
use Rattle.serde_json.specs.View.{view}
use Rattle.world_form.specs.declared.field.Field.TheVariants as fields
use Rattle.world_form.specs.Keys.{key}
use Rattle.world_text.proofs.Passes.{no_list}
use Rattle.world_text.proofs.players.optional_list.Goals as goal

pub returns-in-None-clause-err : goal.returns-in-None-clause-err
returns-in-None-clause-err c =
    let found : get (key fields.Players) (view c.args.part.now) ≡ Some (view c.in-Some.value.now) = search rules in
    ((view c.in-Some.value.now, found, no_list (view c.in-Some.value.now) c.in-None.ensures), refl)
