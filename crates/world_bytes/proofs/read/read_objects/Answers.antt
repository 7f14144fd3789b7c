use Rattle.std.proofs.Common.{◌≡◌, [], ◌∷◌, length-append, refl, true, false, arith}
use Rattle.std.proofs.lemmas.Result.{err_from_is_err_and}
use Rattle.object_store.proofs.Accounts.{all_push}
use Rattle.world_bytes.specs.Forms.{HasObjectForm}
use Rattle.world_bytes.proofs.Lists.{objects_none, objects_not_rising, objects_longer, rising_push}
use Rattle.world_bytes.proofs.read.read_objects.Goals as goal

pub returns-in_err-object-clause-malformed : goal.returns-in_err-object-clause-malformed
returns-in_err-object-clause-malformed c =
    let p = err_from_is_err_and c.from_residual.result c.from_residual.ensures.1 in
    let i = c.each.invariant in
    rw p.1 (λ _. objects_none c.args.count c.each.objects.items c.args.from.now.0 c.each.from.0 (omega (arith, i.counted)) i.forms i.whole c.in_err-object.ensures.none)

pub returns-then-not-is_behind-clause-malformed : goal.returns-then-not-is_behind-clause-malformed
returns-then-not-is_behind-clause-malformed c =
    let i = c.each.invariant in
    λ _. objects_not_rising c.args.count c.each.objects.items c.in_ok-object.object c.args.from.now.0 c.each.from.0 c.read_object.new.from.0 (omega (arith, i.counted)) i.forms i.whole c.in_ok-object.ensures.found
    (λ all. let no : false ≡ true = c.if-not-is_behind.ensures.1 (rw c.deref.ensures.value all) in cc)

pub each-preserved : goal.each-preserved
each-preserved c =
    let i = c.each.invariant in
    let found = c.in_ok-object.ensures.found in
    record {
      counted = rw c.in_ok-push.ensures.items (omega (arith, length-append c.each.objects.items (c.in_ok-object.object ∷ []), i.counted));
      rising = rw c.in_ok-push.ensures.items (rising_push c.each.objects.items c.in_ok-object.object i.rising (rw c.deref.ensures.value at (c.if-not-is_behind.ensures.0 refl)));
      forms = rw c.in_ok-push.ensures.items (all_push HasObjectForm c.each.objects.items c.in_ok-object.object i.forms found.0);
      whole = rw c.in_ok-push.ensures.items (objects_longer c.each.objects.items c.in_ok-object.object c.args.from.now.0 c.each.from.0 c.read_object.new.from.0 i.whole found.1);
      place = omega (arith, i.place, c.in_ok-object.ensures.place);
    }
