use Rattle.std.proofs.Common.{◌≡◌, ℕ, ◌+◌, ◌-◌, ◌<◌, List, length, subst, sym, arith, rules}
use Rattle.wasm_link.specs.inner.Images.{Stands, put}
use Rattle.wasm_link.proofs.Images.{no_write, written_stands, put_part}
use Rattle.wasm_link.proofs.values.write_bytes.Goals as goal

pub returns-then-is_empty-clause-written : goal.returns-then-is_empty-clause-written
returns-then-is_empty-clause-written c =
    let none : length c.args.bytes.now ≡ 0 = search rules in
    λ content fits stands. no_write 0 c.args.stretches.now c.args.values.now content c.args.bytes.now c.args.offset none stands

pub returns-clause-written : goal.returns-clause-written
returns-clause-written c =
    let bytes = c.args.bytes.now in
    let at = c.place_of-at.result in
    let some : 0 < length bytes = search rules in
    let size : at + length bytes - at ≡ length bytes = omega arith in
    λ content fits stands. subst (λ (z : List ℕ). Stands 0 c.args.stretches.now z (put content c.args.offset bytes)) (sym (put_part c.args.values.now bytes c.copy_from_slice.new.self at (at + length bytes - at) size c.copy_from_slice.ensures.after))
    (written_stands 0 c.args.stretches.now c.requires.apart c.args.values.now content bytes c.args.offset at c.requires.held some c.place_of-at.ensures stands)
