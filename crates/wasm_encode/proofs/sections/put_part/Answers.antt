use Rattle.std.proofs.lemmas.Result.{on_ok_weaker}
use Rattle.std.proofs.Common.{[], map, sym}
use Rattle.std.proofs.lemmas.Bool.{eqb-true, eqb-false}
use Rattle.wasm_values.specs.Spelling.{SpellsList}
use Rattle.wasm_encode.proofs.Numbers.{content_shortest, sized_below, sized_spelled}
use Rattle.wasm_encode.proofs.Present.{gains_absent, part_spelled, gains_present, map_some, map_none}
use Rattle.wasm_encode.proofs.sections.put_part.Goals as goal

pub returns-then-is_empty : goal.returns-then-is_empty
returns-then-is_empty g c = gains_absent c.args.number (SpellsList g.W.Written.spells) [] (map g.W.Written.seen c.args.list.now) c.args.out.now.items (map_none g.W.Written.seen c.args.list.now (eqb-true _ _ (sym c.if-is_empty.ensures)))

pub put_list-requires : goal.put_list-requires
put_list-requires g c =
    let seen = map g.W.Written.seen c.args.list.now in
    let some = map_some g.W.Written.seen c.args.list.now (eqb-false _ _ (sym c.if-is_empty.ensures)) in
    sized_spelled (SpellsList g.W.Written.spells) seen (part_spelled c.args.number (SpellsList g.W.Written.spells) [] seen c.requires some)

pub put_section-requires : goal.put_section-requires
put_section-requires g c =
    let seen = map g.W.Written.seen c.args.list.now in
    let some = map_some g.W.Written.seen c.args.list.now (eqb-false _ _ (sym c.if-is_empty.ensures)) in
    let shortest = content_shortest (SpellsList g.W.Written.spells) seen c.new-content.result.items c.put_list.new.out.items c.new-content.ensures.items c.in_ok-put_list.ensures in
    rw c.deref.ensures.value (sized_below (SpellsList g.W.Written.spells) seen c.put_list.new.out.items (part_spelled c.args.number (SpellsList g.W.Written.spells) [] seen c.requires some) shortest)

pub returns : goal.returns
returns g c =
    let seen = map g.W.Written.seen c.args.list.now in
    let some = map_some g.W.Written.seen c.args.list.now (eqb-false _ _ (sym c.if-is_empty.ensures)) in
    let shortest = content_shortest (SpellsList g.W.Written.spells) seen c.new-content.result.items c.put_list.new.out.items c.new-content.ensures.items c.in_ok-put_list.ensures in
    on_ok_weaker c.put_section.result (λ bytes. gains_present c.args.number (SpellsList g.W.Written.spells) [] seen c.put_list.new.out.items c.args.out.now.items c.put_section.new.out.items some shortest (rw c.deref.ensures.value at bytes)) c.put_section.ensures
