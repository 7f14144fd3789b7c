use Rattle.std.proofs.Common.{rules, ℤ, List, w64, SFits, ◌≡◌, ◌+◌, ◌++◌, ◌∷◌, [], length, ap, ◌∙◌, arith}
use mir.Val.{to_z, of_z}
use Rattle.std.proofs.lemmas.Int.{to_z-of_z}
use Rattle.std.proofs.lemmas.List.{length_push}
use Rattle.wasm_values.specs.declared.types.ValType.TheVariants.{I32}
use Rattle.wasm_soundness.proofs.Values.{values_length}
use Rattle.wasm_machine.proofs.Arguments.{arguments_more, value_here, arguments_end}
use Rattle.wasm_machine.proofs.host_calls.write_arguments.Goals as goal

-- a number that is written and read back
added_as : (xs ys : List ℤ) (z : ℤ) → SFits w64 z → ys ≡ xs ++ to_z w64 (of_z w64 z) ∷ [] → ys ≡ xs ++ z ∷ []
added_as xs ys z fits e = e ∙ ap (λ y. xs ++ y ∷ []) (to_z-of_z w64 z fits)

pub argument-requires : goal.argument-requires
argument-requires c = value_here c.args.kinds.now c.args.operands.now c.loop-at.at I32 c.requires.values c.loop-at-test.true

pub loop-at-preserved : goal.loop-at-preserved
loop-at-preserved c =
    let e = arguments_more c.args.kinds.now c.args.operands.now c.loop-at.at I32 c.loop-at-test.true c.if-at-operands.true in
    record {
      within = omega (arith, c.loop-at-test.true);
      written = (let fits : SFits w64 c.argument.result = search rules in let f = added_as c.loop-at.arguments.items c.push_reserved.new.self.items c.argument.result fits c.push_reserved.ensures.items in cc);
      count = ap length c.push_reserved.ensures.items ∙ length_push c.loop-at.arguments.items _ ∙ ap (λ n. n + 1) c.loop-at.invariant.count;
      capacity = c.push_reserved.ensures.capacity ∙ c.loop-at.invariant.capacity;
    }

pub returns-else-at-operands-clause-written : goal.returns-else-at-operands-clause-written
returns-else-at-operands-clause-written c =
    let n = values_length c.requires.values in
    c.loop-at.invariant.written ∙ arguments_end c.args.kinds.now c.args.operands.now c.loop-at.at (omega (arith, n, c.if-at-operands.false)) c.if-at-operands.false

pub returns-after-loop-at-clause-written : goal.returns-after-loop-at-clause-written
returns-after-loop-at-clause-written c =
    let n = values_length c.requires.values in
    c.loop-at.invariant.written ∙ arguments_end c.args.kinds.now c.args.operands.now c.loop-at.at c.loop-at-test.false (omega (arith, n, c.loop-at-test.false))
