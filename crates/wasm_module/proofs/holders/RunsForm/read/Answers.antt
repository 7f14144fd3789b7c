use Rattle.std.proofs.Common.{List, subst, sym, ◌∙◌}
use Rattle.byte_fields.specs.Front.{Begins}
use Rattle.wasm_values.specs.Spelling.{SpellsList}
use Rattle.wasm_module.specs.Entries.{SpellsLocalRun}
use Rattle.wasm_module.specs.declared.codes.LocalRun.{LocalRun}
use Rattle.std.proofs.lemmas.List.{map-id}
use Rattle.wasm_module.proofs.holders.RunsForm.read.Goals as goal

pub returns-clause-only : goal.returns-clause-only
returns-clause-only c = λ other more b. let one = c.in_ok-list.ensures.only other more b in (one.0 ∙ map-id c.in_ok-list.list.items ∙ sym c.in_ok-kept.ensures, one.1)

pub returns-clause-found : goal.returns-clause-found
returns-clause-found c =
    let P : List LocalRun → Type 0 = λ z. Begins (SpellsList SpellsLocalRun) c.args.cursor.now.0 z c.entries.new.cursor.0 in
    subst P (map-id c.in_ok-list.list.items ∙ sym c.in_ok-kept.ensures) c.in_ok-list.ensures.found
