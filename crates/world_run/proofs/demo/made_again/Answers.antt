use Rattle.std.proofs.Common.{List, ℕ, ap, subst, sym, ◌∙◌}
use Rattle.world_form.specs.Files.{WorldForm}
use Rattle.world_form.specs.Written.{written}
use Rattle.world_run.specs.Demo.{made_world}
use Rattle.world_run.proofs.Demonstrates.{made_same}
use Rattle.world_run.proofs.demo.made_again.Goals as goal

pub returns-in-Ok-clause-same : goal.returns-in-Ok-clause-same
returns-in-Ok-clause-same c =
    let accepted = c.generated_worlds_are_writable.ensures.accepted c.args.seed c.args.rooms c.requires.0 c.requires.1 in
    let text = c.new.ensures ∙ (c.in_ok-text.ensures.text ∙ ap written c.in_ok-world.ensures) in
    let read = c.in-Ok.ensures.found in
    made_same _ _ read.0 (made_world c.args.seed c.args.rooms) _ (subst (λ (b : List ℕ). WorldForm b (made_world c.args.seed c.args.rooms)) (sym text) accepted) read.1 read.2
