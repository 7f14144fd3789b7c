use Rattle.std.proofs.lemmas.List.{map-id}
use Rattle.wasm_module.specs.Sections.{module_view}
use Rattle.wasm_encode.proofs.Whole.{types_spelled, imports_spelled, funcs_spelled, tables_spelled, memories_spelled, globals_spelled, exports_spelled, start_spelled, elements_spelled, codes_spelled, segments_spelled, gains_whole, whole_one}
use Rattle.wasm_encode.proofs.sections.encode.Goals as goal

pub put_part-requires : goal.put_part-requires
put_part-requires c = rw (map-id, c.as_slice.ensures) (types_spelled (module_view c.args.whole.now) c.requires)

pub put_part-requires-2 : goal.put_part-requires-2
put_part-requires-2 c = rw (map-id, c.as_slice-2.ensures) (imports_spelled (module_view c.args.whole.now) c.requires)

pub put_part-requires-3 : goal.put_part-requires-3
put_part-requires-3 c = rw (map-id, c.as_slice-3.ensures) (funcs_spelled (module_view c.args.whole.now) c.requires)

pub put_part-requires-4 : goal.put_part-requires-4
put_part-requires-4 c = rw (map-id, c.as_slice-4.ensures) (tables_spelled (module_view c.args.whole.now) c.requires)

pub put_part-requires-5 : goal.put_part-requires-5
put_part-requires-5 c = rw (map-id, c.as_slice-5.ensures) (memories_spelled (module_view c.args.whole.now) c.requires)

pub put_part-requires-6 : goal.put_part-requires-6
put_part-requires-6 c = rw c.as_slice-6.ensures (globals_spelled (module_view c.args.whole.now) c.requires)

pub put_part-requires-7 : goal.put_part-requires-7
put_part-requires-7 c = rw (map-id, c.as_slice-7.ensures) (exports_spelled (module_view c.args.whole.now) c.requires)

pub put_start-requires : goal.put_start-requires
put_start-requires c = start_spelled (module_view c.args.whole.now) c.requires

pub put_part-requires-8 : goal.put_part-requires-8
put_part-requires-8 c = rw c.as_slice-8.ensures (elements_spelled (module_view c.args.whole.now) c.requires)

pub put_part-requires-9 : goal.put_part-requires-9
put_part-requires-9 c = rw c.as_slice-9.ensures (codes_spelled (module_view c.args.whole.now) c.requires)

pub put_part-requires-10 : goal.put_part-requires-10
put_part-requires-10 c = rw c.as_slice-10.ensures (segments_spelled (module_view c.args.whole.now) c.requires)

pub returns : goal.returns
returns c =
    let shortest = gains_whole (module_view c.args.whole.now) c.in_ok-out.out.items c.put_part.new.out.items c.put_part-2.new.out.items c.put_part-3.new.out.items c.put_part-4.new.out.items c.put_part-5.new.out.items c.put_part-6.new.out.items c.put_part-7.new.out.items c.put_start.new.out.items c.put_part-8.new.out.items c.put_part-9.new.out.items c.put_part-10.new.out.items c.requires (c.in_ok-out.ensures.items_if_clones_equal (λ x y same. same)) (rw (map-id, c.as_slice.ensures) at c.in_ok-put_part.ensures) (rw (map-id, c.as_slice-2.ensures) at c.in_ok-put_part-2.ensures) (rw (map-id, c.as_slice-3.ensures) at c.in_ok-put_part-3.ensures) (rw (map-id, c.as_slice-4.ensures) at c.in_ok-put_part-4.ensures) (rw (map-id, c.as_slice-5.ensures) at c.in_ok-put_part-5.ensures) (rw c.as_slice-6.ensures at c.in_ok-put_part-6.ensures) (rw (map-id, c.as_slice-7.ensures) at c.in_ok-put_part-7.ensures) c.in_ok-put_start.ensures (rw c.as_slice-8.ensures at c.in_ok-put_part-8.ensures) (rw c.as_slice-9.ensures at c.in_ok-put_part-9.ensures) (rw c.as_slice-10.ensures at c.in_ok-put_part-10.ensures) in
    record { shortest = shortest; once = λ other s. whole_one (module_view c.args.whole.now) other c.put_part-10.new.out.items s shortest }
