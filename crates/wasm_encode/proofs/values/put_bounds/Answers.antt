use Rattle.std.proofs.lemmas.Result.{on_ok_weaker}
use Rattle.wasm_values.specs.Spelling.{SpellsU32}
use Rattle.wasm_encode.proofs.Shortest.{gains_then}
use Rattle.wasm_encode.proofs.Tagged.{gains_tagged}
use Rattle.wasm_encode.proofs.Types.{open_tagged, closed_tagged, bounds_open, bounds_closed}
use Rattle.wasm_encode.proofs.values.put_bounds.Goals as goal

pub returns-in_ok-push-in-None : goal.returns-in_ok-push-in-None
returns-in_ok-push-in-None c =
    let bounds = c.args.bounds.now in
    on_ok_weaker c.put_leb_u32.result (λ min. gains_tagged open_tagged bounds.min bounds c.args.out.now.items c.push.new.self.items c.put_leb_u32.new.out.items (bounds_open bounds c.in-None.is) c.in_ok-push-in-None.ensures.items min) c.put_leb_u32.ensures.written

pub returns-in_ok-put_leb_u32-in-Some : goal.returns-in_ok-put_leb_u32-in-Some
returns-in_ok-put_leb_u32-in-Some c =
    let bounds = c.args.bounds.now in
    on_ok_weaker c.put_leb_u32-in-Some-2.result (λ most. gains_tagged closed_tagged (bounds.min, c.in-Some.most) bounds c.args.out.now.items c.push-in-Some.new.self.items c.put_leb_u32-in-Some-2.new.out.items (bounds_closed bounds c.in-Some.most c.in-Some.is) c.in_ok-push-in-Some.ensures.items (gains_then SpellsU32 SpellsU32 bounds.min c.in-Some.most c.push-in-Some.new.self.items c.put_leb_u32-in-Some.new.out.items c.put_leb_u32-in-Some-2.new.out.items c.in_ok-put_leb_u32-in-Some.ensures.written most)) c.put_leb_u32-in-Some-2.ensures.written
