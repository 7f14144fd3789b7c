use Rattle.std.proofs.Common.{ap, sym, ◌∙◌, length}
use Rattle.std.proofs.lemmas.List.{length-map}
use Rattle.std.proofs.lemmas.Result.{err_from_is_err_and}
use Rattle.wasm_module.proofs.parts.parts_of.Goals as goal

pub returns-in_err-declared-clause-malformed : goal.returns-in_err-declared-clause-malformed
returns-in_err-declared-clause-malformed g c = let p = err_from_is_err_and c.from_residual.result c.from_residual.ensures.1 in rw (p.1, p.2) (λ is m a. c.in_err-declared.ensures.malformed is
    (record { types = m.types; imports = m.imports; funcs = m.funcs; tables = m.tables; memories = m.memories })
    (record { types = a.types; imports = a.imports; funcs = a.funcs; tables = a.tables; memories = a.memories }))

pub returns-in_err-defined-clause-malformed : goal.returns-in_err-defined-clause-malformed
returns-in_err-defined-clause-malformed g c = let p = err_from_is_err_and c.from_residual-in_err-defined.result c.from_residual-in_err-defined.ensures.1 in rw (p.1, p.2) (λ is m a.
    let funcs = ap length (c.in_ok-declared.ensures.only m.funcs a.funcs) in
    c.in_err-defined.ensures.malformed is m a (sym a.functions ∙ funcs ∙ sym c.len.ensures))

pub returns-clause-found : goal.returns-clause-found
returns-clause-found g c =
    let d = c.in_ok-declared.ensures.found in
    let e = c.in_ok-defined.ensures.found in
    record {
      types = d.types;
      imports = d.imports;
      funcs = d.funcs;
      tables = d.tables;
      memories = d.memories;
      globals = e.globals_held;
      exports = e.exports_held;
      start = e.start_held;
      elements = e.elements_held;
      codes = e.codes_held;
      segments = e.segments_held;
      functions = sym c.len.ensures ∙ sym c.in_ok-defined.ensures.counted ∙ sym (length-map c.in_ok-defined.defined.codes _);
    }
