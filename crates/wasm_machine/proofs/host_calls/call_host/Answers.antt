use Rattle.std.proofs.Common.{rules, ◌≡◌, ℤ, ℕ, List, ◌++◌, length, take, drop, reverse, w64, SFits, ap, ◌∙◌, subst}
use Rattle.std.proofs.lemmas.Int.{to_z-of_z}
use Rattle.wasm_values.specs.declared.types.FuncType.{FuncType}
use Rattle.wasm_steps.specs.Steps.{answered}
use Rattle.wasm_stack.specs.Held.{Held, without}
use Rattle.wasm_stack.specs.Standing.{held}
use Rattle.wasm_machine.specs.inner.Calls.{arguments_of}
use Rattle.wasm_machine.proofs.Arguments.{answer_is_value}
use Rattle.wasm_machine.proofs.host_calls.call_host.Goals as goal

-- the answer on what is left of the operands
answer_gives : (type : FuncType) (answer seen : ℤ) (old between new : Held) (count : ℕ) → seen ≡ answer → count ≡ length type.params
    → between ≡ without count old → new ≡ record between { operands = answered type.result seen ++ between.operands }
    → new ≡ record old { operands = answered type.result answer ++ drop (length type.params) old.operands }
answer_gives type answer seen old between new count same n e f =
    f ∙ ap (λ (z : ℤ). record between { operands = answered type.result z ++ between.operands }) same
    ∙ ap (λ (z : Held). record z { operands = answered type.result answer ++ z.operands }) e
    ∙ ap (λ k. record old { operands = answered type.result answer ++ drop k old.operands }) n

pub returns-clause-answered : goal.returns-clause-answered
returns-clause-answered g c =
    let type = c.args.kind.now in
    let n : length c.as_slice-params.result.now ≡ length type.params = ap length c.as_slice-params.ensures in
    let fits : SFits w64 c.answer-answer.result = search rules in
    let given : c.as_slice-2.result.now ≡ arguments_of type.params (reverse (take (length type.params) (held c.args.stack.now).operands)) =
    c.as_slice-2.ensures.value ∙ c.write_arguments.ensures.written ∙ ap (λ z. arguments_of z c.operands.result.now) c.as_slice.ensures
    ∙ ap (λ z. arguments_of type.params z) (c.operands.ensures ∙ ap (λ k. reverse (take k (held c.args.stack.now).operands)) n) in
    record {
      answer = c.answer-answer.result;
      value = answer_is_value type.result c.answer-answer.result fits;
      answers = subst (λ (z : List ℤ). g.H.Host.answers c.args.host.now c.args.call z c.args.pages.now c.answer-answer.result c.answer-answer.new.pages c.answer-answer.new.self) given c.answer-answer.ensures.answered;
      gives = answer_gives type c.answer-answer.result _ (held c.args.stack.now) (held c.discard.new.self) (held c.push_answer.new.stack) _ (to_z-of_z w64 c.answer-answer.result fits) n c.discard.ensures c.push_answer.ensures;
    }
