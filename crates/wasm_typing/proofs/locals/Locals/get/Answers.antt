use Rattle.std.proofs.Common.{◌≡◌, ◌≤◌, ◌<◌, length, slice_get, get_or, arith, ap, sym, ◌∙◌}
use Rattle.wasm_typing.proofs.Ends.{local_found}
use Rattle.wasm_typing.proofs.locals.Locals.get.Goals as goal

pub returns : goal.returns
returns c =
    let run = c.in_ok-run.run'.now in
    let below : c.run_of.result < length c.self.inside.runs.now = c.in_ok-run.ensures.lookup.3.0 in
    let is : run ≡ get_or c.self.inside.runs.now c.run_of.result run = c.in_ok-run.ensures.lookup.1 in
    let past : length c.self.inside.params.now ≤ c.args.index = omega (arith, c.if-index-params.false) in
    sym (ap (λ z. slice_get z c.args.index) (sym c.self.view_is) ∙ local_found c.self.inside.params.now c.self.inside.runs.now c.args.index c.run_of.result run past (c.run_of.ensures c.self.inside.runs.now c.self.invariant (omega (arith, c.ranges.index.fits))) below is)
