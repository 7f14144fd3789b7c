use Rattle.std.proofs.lemmas.Result.{on_ok_weaker}
use Rattle.wasm_module.specs.Sections.{SpellsStart}
use Rattle.std.proofs.Common.{None}
use Rattle.wasm_encode.proofs.Numbers.{content_shortest, sized_below}
use Rattle.wasm_values.specs.Spelling.{SpellsU32}
use Rattle.wasm_encode.proofs.Present.{part_spelled, gains_present, start_some, start_shortest}
use Rattle.wasm_encode.proofs.sections.put_start.Goals as goal

pub put_section-requires : goal.put_section-requires
put_section-requires c =
    let start = c.args.start in
    let number = content_shortest SpellsU32 c.in-Some.func c.new-content.result.items c.put_leb_u32.new.out.items c.new-content.ensures.items c.in_ok-put_leb_u32.ensures.written in
    let sized = part_spelled 8 SpellsStart None start c.requires (start_some c.in-Some.func start c.in-Some.is) in
    rw c.deref.ensures.value (sized_below SpellsStart start c.put_leb_u32.new.out.items sized (start_shortest c.in-Some.func start c.put_leb_u32.new.out.items c.in-Some.is number))

pub returns : goal.returns
returns c =
    let start = c.args.start in
    let number = content_shortest SpellsU32 c.in-Some.func c.new-content.result.items c.put_leb_u32.new.out.items c.new-content.ensures.items c.in_ok-put_leb_u32.ensures.written in
    on_ok_weaker c.put_section.result (λ bytes. gains_present 8 SpellsStart None start c.put_leb_u32.new.out.items c.args.out.now.items c.put_section.new.out.items (start_some c.in-Some.func start c.in-Some.is) (start_shortest c.in-Some.func start c.put_leb_u32.new.out.items c.in-Some.is number) (rw c.deref.ensures.value at bytes)) c.put_section.ensures
