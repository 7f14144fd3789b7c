use Rattle.std.proofs.lemmas.Result.{on_ok_weaker}
use Rattle.wasm_encode.proofs.Types.{gains_no_result, gains_one_result}
use Rattle.wasm_encode.proofs.values.put_results.Goals as goal

pub returns-in_ok-push-in-None : goal.returns-in_ok-push-in-None
returns-in_ok-push-in-None c = rw c.in-None.is (gains_no_result c.args.out.now.items c.push.new.self.items c.in_ok-push-in-None.ensures.items)

pub returns-in_ok-push-in-Some : goal.returns-in_ok-push-in-Some
returns-in_ok-push-in-Some c = rw c.in-Some.is (on_ok_weaker c.put_val_type.result (λ one. gains_one_result c.in-Some.value c.args.out.now.items c.push-in-Some.new.self.items c.put_val_type.new.out.items c.in_ok-push-in-Some.ensures.items one) c.put_val_type.ensures)
