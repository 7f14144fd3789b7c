use Rattle.std.proofs.Common.{rules, arith}
use Rattle.std.proofs.lemmas.Result.{err_from_is_err_and}
use Rattle.upload_stream.proofs.Entries.{entry_whole, none_by_count, none_by_length}
use Rattle.upload_stream.proofs.Words.{word_length}
use Rattle.upload_stream.proofs.entry.entry_ahead.Goals as goal

pub returns-in_err-tick-clause-none : goal.returns-in_err-tick-clause-none
returns-in_err-tick-clause-none c =
    let p = err_from_is_err_and c.from_residual.result c.from_residual.ensures.1 in
    rw p.1 (none_by_length 0 c.args.from.now.0 (omega (arith, c.in_err-tick.ensures.short)))

pub returns-in_err-player-clause-none : goal.returns-in_err-player-clause-none
returns-in_err-player-clause-none c =
    let p = err_from_is_err_and c.from_residual-in_err-player.result c.from_residual-in_err-player.ensures.1 in
    let tick = word_length 8 c.in_ok-tick.tick c.args.from.now.0 c.u64.new.self.0 c.in_ok-tick.ensures.found in
    rw p.1 (none_by_length 0 c.args.from.now.0 (omega (arith, tick, c.in_err-player.ensures.short)))

pub returns-in_err-count-clause-none : goal.returns-in_err-count-clause-none
returns-in_err-count-clause-none c =
    let p = err_from_is_err_and c.from_residual-in_err-count.result c.from_residual-in_err-count.ensures.1 in
    let tick = word_length 8 c.in_ok-tick.tick c.args.from.now.0 c.u64.new.self.0 c.in_ok-tick.ensures.found in
    let player = word_length 4 c.in_ok-player.player c.u64.new.self.0 c.u32.new.self.0 c.in_ok-player.ensures.found in
    rw p.1 (none_by_length 0 c.args.from.now.0 (omega (arith, tick, player, c.in_err-count.ensures.short)))

pub returns-in_err-bytes-clause-none : goal.returns-in_err-bytes-clause-none
returns-in_err-bytes-clause-none c =
    let p = err_from_is_err_and c.from_residual-in_err-bytes.result c.from_residual-in_err-bytes.ensures.1 in
    rw p.1 (none_by_count 0 c.in_ok-tick.tick c.in_ok-player.player c.in_ok-count.count c.args.from.now.0 c.u64.new.self.0 c.u32.new.self.0 c.u32-2.new.self.0 (search rules) (search rules) (search rules) c.in_ok-tick.ensures.found c.in_ok-player.ensures.found c.in_ok-count.ensures.found c.in_err-bytes.ensures.short)

pub returns-clause-found : goal.returns-clause-found
returns-clause-found c =
    rw c.upload_from.ensures.fields (entry_whole (record { tick = c.in_ok-tick.tick; player = c.in_ok-player.player; bytes = c.in_ok-bytes.bytes.now }) c.in_ok-count.count c.args.from.now.0 c.u64.new.self.0 c.u32.new.self.0 c.u32-2.new.self.0 c.take.new.self.0
    (search rules) (search rules) (search rules) c.upload_from.ensures.bytes
    c.in_ok-tick.ensures.found c.in_ok-player.ensures.found c.in_ok-count.ensures.found c.in_ok-bytes.ensures.found c.in_ok-bytes.ensures.count)
