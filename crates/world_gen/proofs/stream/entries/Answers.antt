use Rattle.std.proofs.Common.{arith, rules}
use Rattle.upload_stream.proofs.Words.{all_bytes}
use Rattle.world_gen.proofs.Streamed.{stream_is}
use Rattle.world_gen.proofs.stream.entries.Goals as goal

pub returns : goal.returns
returns c =
    let fits = all_bytes c.args.text.now (λ i. omega (arith, c.type_inv.text i)) in
    search (rules, stream_is, fits)
