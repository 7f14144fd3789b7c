use Rattle.wasm_link.proofs.Names.{text_is}
use Rattle.wasm_link.proofs.imports.is_text.Goals as goal

pub returns : goal.returns
returns c = text_is c.args.text.now c.as_bytes.result.now c.args.bytes.now c.eq.result c.as_bytes.ensures.value c.eq.ensures
