use Rattle.std.proofs.Common.{◌≤◌, ℕ, List, length, sym, subst, arith}
use Rattle.std.proofs.lemmas.Result.{err_from_is_err_and}
use Rattle.wasm_module.specs.Sections.{Spells, module_view}
use Rattle.wasm_module.specs.Limits.{WithinBytes}
use Rattle.module_round_trip.proofs.written_and_read.Goals as goal

pub returns-clause-same : goal.returns-clause-same
returns-clause-same c =
    let P : List ℕ → Type 0 = λ z. Spells z (module_view c.args.whole.now) in
    c.in_ok-found.ensures.once (module_view c.in_ok-found.found) (module_view c.args.whole.now) c.in_ok-found.ensures.found (subst P (sym c.deref.ensures.value) c.in-Ok.ensures.shortest.0)

pub returns-in_err-found-clause-memory : goal.returns-in_err-found-clause-memory
returns-in_err-found-clause-memory c =
    let P : List ℕ → Type 0 = λ z. Spells z (module_view c.args.whole.now) in
    let W : List ℕ → Type 0 = λ z. WithinBytes z in
    let least : length c.in-Ok.bytes.items ≤ length c.requires.spelled.0 = c.in-Ok.ensures.shortest.1 c.requires.spelled.0 c.requires.spelled.1 in
    let small : WithinBytes c.in-Ok.bytes.items = omega (arith, least, c.requires.spelled.2) in
    let p = err_from_is_err_and c.from_residual.result c.from_residual.ensures.1 in
    rw (p.1, p.2) (c.in_err-found.ensures.complete (module_view c.args.whole.now) (subst P (sym c.deref.ensures.value) c.in-Ok.ensures.shortest.0) (subst W (sym c.deref.ensures.value) small) c.requires.within)
