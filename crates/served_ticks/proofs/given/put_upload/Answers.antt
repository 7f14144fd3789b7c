use Rattle.std.proofs.lemmas.Result.{on_ok_weaker}
use Rattle.served_ticks.proofs.Streams.{entry_written, if_ok}
use Rattle.served_ticks.proofs.given.put_upload.Goals as goal

pub returns-clause-written : goal.returns-clause-written
returns-clause-written c =
    on_ok_weaker c.extend_from_slice.result
    (λ last. entry_written (record { tick = c.args.tick; player = c.args.player; bytes = c.args.bytes.now }) c.args.stream.now.items _ _ _ _ c.in_ok-put_u64.ensures.written c.in_ok-put_u32.ensures.written c.in_ok-put_length.ensures.written last)
    (if_ok c.extend_from_slice.result _ _ _ c.extend_from_slice.ensures.items)
