use Rattle.std.proofs.Common.{◌≡◌, ◌∙◌, ℕ, ◌<◌, List, Option, Some, None, length, map, subst, sym, arith, rules}
use Rattle.std.proofs.lemmas.List.{length-map}
use Rattle.wasm_link.specs.inner.Images.{Stands, put}
use Rattle.wasm_link.proofs.Images.{no_write, written_stands, put_some, in_some}
use Rattle.wasm_link.proofs.values.write_funcs.Goals as goal

pub returns-then-is_empty-clause-written : goal.returns-then-is_empty-clause-written
returns-then-is_empty-clause-written c =
    let none : length c.args.funcs.now ≡ 0 = search rules in
    λ content fits stands. no_write None c.args.stretches.now c.args.values.now content (map Some c.args.funcs.now) c.args.offset (length-map c.args.funcs.now (λ (z : ℕ). Some z) ∙ none) stands

pub returns-clause-written : goal.returns-clause-written
returns-clause-written c =
    let funcs = c.args.funcs.now in
    let at = c.place_of.result in
    let some : 0 < length funcs = search rules in
    let same = length-map funcs (λ (z : ℕ). Some z) in
    λ content fits stands. subst (λ (z : List (Option ℕ)). Stands None c.args.stretches.now z (put content c.args.offset (map Some funcs))) (sym (c.fill.ensures ∙ put_some c.args.values.now at funcs))
    (written_stands None c.args.stretches.now c.requires.apart c.args.values.now content (map Some funcs) c.args.offset at (in_some c.args.stretches.now c.args.offset funcs c.requires.held) (omega (arith, some, same)) c.place_of.ensures stands)
