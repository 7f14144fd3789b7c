use Rattle.std.proofs.Common.{map, take}
use Rattle.wasm_encode.specs.inner.Gains.{Gains}
use Rattle.wasm_values.specs.Spelling.{SpellsEach}
use Rattle.wasm_encode.proofs.written.put_entries.Given as goal

abbrev pub invariant-each : goal.invariant-each
invariant-each g l = Gains (SpellsEach g.W.Written.spells) (map g.W.Written.seen (take l.value-index l.list)) l.fn.out.items l.out.items
