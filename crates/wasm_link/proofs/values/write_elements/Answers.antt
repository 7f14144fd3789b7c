use Rattle.std.proofs.Common.{ℕ, ◌+◌, ◌++◌, List, Option, Some, None, length, map, take, drop, subst, sym, arith, ◌∙◌, refl}
use Rattle.wasm_link.specs.inner.Images.{Stands}
use Rattle.wasm_link.proofs.Begun.{element_fits_here, table_size_kept, elements_more, elements_end}
use Rattle.wasm_link.proofs.Images.{put_some}
use Rattle.wasm_link.proofs.values.write_elements.Goals as goal

pub loop-at-preserved : goal.loop-at-preserved
loop-at-preserved c =
    let elements = c.args.elements.now in
    let at = c.loop-at.at in
    let x = c.index-elements-at.result in
    let offset = c.value_of-offset.result in
    let funcs = c.as_slice.result.now in
    record {
      within = omega (arith, c.loop-at-test.true);
      size = c.write_funcs.ensures.len ∙ c.loop-at.invariant.size;
      begun = λ table fit stands.
          let b = c.loop-at.invariant.begun table fit stands in
          let new : List (Option ℕ) = take offset b.0 ++ (map Some funcs ++ drop (offset + length funcs) b.0) in
          let fits = element_fits_here elements at (length table) x c.loop-at-test.true c.index-elements-at.is b.0 new table offset funcs fit b.1 c.value_of-offset.ensures.value c.as_slice.ensures in (
            new,
            table_size_kept elements at (length table) x c.loop-at-test.true c.index-elements-at.is b.0 new table offset funcs fit b.1 c.value_of-offset.ensures.value c.as_slice.ensures refl,
            subst (λ (z : List (Option ℕ)). Stands None c.args.stretches.now c.write_funcs.new.values z) (sym (put_some b.0 offset funcs)) (c.write_funcs.ensures.written b.0 fits b.2),
            elements_more elements at (length table) x c.loop-at-test.true c.index-elements-at.is b.0 new table offset funcs fit b.1 c.value_of-offset.ensures.value c.as_slice.ensures refl b.3,
          );
    }

pub returns-clause-written : goal.returns-clause-written
returns-clause-written c = λ table fit stands.
    let b = c.loop-at.invariant.begun table fit stands in
    subst (λ (z : List (Option ℕ)). Stands None c.args.stretches.now c.loop-at.values z) (elements_end c.args.elements.now c.loop-at.at b.0 table (omega (arith, c.loop-at-test.false)) b.3) b.2
