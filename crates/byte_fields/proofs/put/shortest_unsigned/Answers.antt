use Rattle.std.proofs.Common.{arith, ◌≡◌, ◌+◌, ◌-◌, ◌*◌, ◌/◌, ◌%◌, [], ◌∷◌, take, bit_and}
use Rattle.std.proofs.lemmas.List.{take_more_set}
use Rattle.std.proofs.lemmas.Nat.{and_mask}
use Rattle.byte_fields.specs.Leb.{SpellsUnsigned}
use Rattle.byte_fields.proofs.Written.{leads_more, unsigned_shortest_last, unsigned_shortest_more, unsigned_shortest_one, wide, narrower}
use Rattle.byte_fields.proofs.put.shortest_unsigned.Goals as goal

pub loop-high-preserved : goal.loop-high-preserved
loop-high-preserved c =
    let i = c.loop-high.invariant in
    let bits = wide (32 - 7 * c.loop-high.last) c.loop-high.high c.loop-high-test.true i.small in
    let next : 32 - 7 * c.loop-high.last - 7 ≡ 32 - 7 * (c.loop-high.last + 1) = omega arith in
    let smaller = narrower (32 - 7 * c.loop-high.last) c.loop-high.high bits i.small in
    let low : bit_and c.loop-high.high 127 ≡ c.loop-high.high % 128 = and_mask c.loop-high.high 7 in
    record {
      room = omega arith;
      small = rw next at smaller;
      leads = leads_more (SpellsUnsigned 32) (SpellsUnsigned (32 - 7 * c.loop-high.last)) (SpellsUnsigned (32 - 7 * (c.loop-high.last + 1))) (take c.loop-high.last c.loop-high.text) _ c.args.value c.loop-high.high (c.loop-high.high / 128) (bit_and c.loop-high.high 127 + 128) i.leads (take_more_set c.loop-high.text c.loop-high.last _ (omega arith)) (λ bytes s. unsigned_shortest_more (32 - 7 * c.loop-high.last) c.loop-high.high (bit_and c.loop-high.high 127 + 128) (c.loop-high.high / 128) bytes (omega arith) (omega arith) bits (omega arith) (omega arith) (rw next s));
    }

pub returns-clause-shortest : goal.returns-clause-shortest
returns-clause-shortest c =
    let i = c.loop-high.invariant in
    rw (take_more_set c.loop-high.text c.loop-high.last c.loop-high.high (omega arith)) (i.leads (c.loop-high.high ∷ []) (unsigned_shortest_last (32 - 7 * c.loop-high.last) c.loop-high.high c.loop-high-test.false i.small))

pub returns-clause-only : goal.returns-clause-only
returns-clause-only c = λ other s. unsigned_shortest_one 32 c.args.value other _ s (returns-clause-shortest c)
