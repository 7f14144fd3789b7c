use Rattle.std.proofs.Common.{length, subst, arith}
use Rattle.wasm_store.specs.Memory.{Memory, written}
use Rattle.wasm_link.specs.inner.Images.{Stands}
use Rattle.std.proofs.Common.{◌∙◌, refl}
use Rattle.wasm_link.proofs.Begun.{data_fits_here, size_kept, segments_more, segments_end}
use Rattle.wasm_link.proofs.values.write_segments.Goals as goal

pub loop-at-preserved : goal.loop-at-preserved
loop-at-preserved c =
    let segments = c.args.segments.now in
    let at = c.loop-at.at in
    let x = c.index-segments-at.result in
    let offset = c.value_of-offset.result in
    let bytes = c.as_slice.result.now in
    record {
      within = omega (arith, c.loop-at-test.true);
      size = c.write_bytes.ensures.len ∙ c.loop-at.invariant.size;
      begun = λ memory fit stands.
          let b = c.loop-at.invariant.begun memory fit stands in
          let new = written b.0 offset bytes in
          let fits = data_fits_here segments at (length memory.bytes) x c.loop-at-test.true c.index-segments-at.is b.0 new memory offset bytes fit b.1 c.value_of-offset.ensures.value c.as_slice.ensures in (
            new,
            size_kept segments at (length memory.bytes) x c.loop-at-test.true c.index-segments-at.is b.0 new memory offset bytes fit b.1 c.value_of-offset.ensures.value c.as_slice.ensures refl,
            c.write_bytes.ensures.written b.0.bytes fits b.2,
            segments_more segments at (length memory.bytes) x c.loop-at-test.true c.index-segments-at.is b.0 new memory offset bytes fit b.1 c.value_of-offset.ensures.value c.as_slice.ensures refl b.3,
          );
    }

pub returns-clause-written : goal.returns-clause-written
returns-clause-written c = λ memory fit stands.
    let b = c.loop-at.invariant.begun memory fit stands in
    subst (λ (z : Memory). Stands 0 c.args.stretches.now c.loop-at.values z.bytes) (segments_end c.args.segments.now c.loop-at.at b.0 memory (omega (arith, c.loop-at-test.false)) b.3) b.2
