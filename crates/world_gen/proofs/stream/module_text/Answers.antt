use Rattle.wasm_module.specs.Sections.{module_view}
use Rattle.world_gen.proofs.Streamed.{shortest_of, shortest_once}
use Rattle.world_gen.proofs.stream.module_text.Goals as goal

pub returns-clause-shortest : goal.returns-clause-shortest
returns-clause-shortest c =
    shortest_of (module_view c.in_ok-whole.whole) c.in_ok-text.text.items c.in_ok-whole.ensures
    c.in_ok-text.ensures.shortest

pub returns-clause-once : goal.returns-clause-once
returns-clause-once c =
    shortest_once (module_view c.in_ok-whole.whole) c.in_ok-text.text.items c.in_ok-whole.ensures
    c.in_ok-text.ensures.once
