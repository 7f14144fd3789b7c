use Rattle.std.proofs.Common.{List, ℕ, ap, ◌∙◌, subst, sym}
use Rattle.std.proofs.lemmas.Result.{IfOk-weaker}
use Rattle.serde_json.specs.Written.{compact_text}
use Rattle.world_form.specs.Files.{Lists}
use Rattle.world_form.specs.Written.{filed_of}
use Rattle.world_form.proofs.ReadBack.{written-Lists}
use Rattle.world_text.proofs.WrittenPlain.{world_plain}
use Rattle.world_text.proofs.write.write_world.Goals as goal

pub returns-clause-text : goal.returns-clause-text
returns-clause-text c =
    let value = c.in_ok-world_value.ensures.value in
    IfOk-weaker c.to_vec.result _ _ (λ text h. h (rw value (world_plain c.args.world.now)) ∙ ap compact_text value) c.to_vec.ensures.text

pub returns-clause-reads_back : goal.returns-clause-reads_back
returns-clause-reads_back c =
    let world = c.args.world.now in
    IfOk-weaker c.to_vec.result _ _
    (λ text same writable. subst (λ (bytes : List ℕ). Lists bytes (filed_of world)) (sym same) (written-Lists world writable c.in_ok-world_value.ensures.types))
    (returns-clause-text c)
