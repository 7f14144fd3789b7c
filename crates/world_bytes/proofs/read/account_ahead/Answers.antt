use Rattle.std.proofs.Common.{rules}
use Rattle.std.proofs.lemmas.Result.{err_from_is_err_and}
use Rattle.world_bytes.proofs.Rooms.{account_short, account_begins, leads_account, behind_points, account_memory}
use Rattle.world_bytes.proofs.read.account_ahead.Goals as goal

pub returns-in_err-player-clause-malformed : goal.returns-in_err-player-clause-malformed
returns-in_err-player-clause-malformed c =
    let p = err_from_is_err_and c.from_residual.result c.from_residual.ensures.1 in
    rw p.1 (λ _. account_short c.args.from.now.0 (search rules))

pub returns-in_err-limit-clause-malformed : goal.returns-in_err-limit-clause-malformed
returns-in_err-limit-clause-malformed c =
    let p = err_from_is_err_and c.from_residual-in_err-limit.result c.from_residual-in_err-limit.ensures.1 in
    rw p.1 (λ _. account_short c.args.from.now.0 (search rules))

pub returns-in_err-bucket-clause-malformed : goal.returns-in_err-bucket-clause-malformed
returns-in_err-bucket-clause-malformed c =
    let p = err_from_is_err_and c.from_residual-in_err-bucket.result c.from_residual-in_err-bucket.ensures.1 in
    rw p.1 (λ _. account_short c.args.from.now.0 (search rules))

pub returns-in_err-points-clause-malformed : goal.returns-in_err-points-clause-malformed
returns-in_err-points-clause-malformed c =
    let p = err_from_is_err_and c.from_residual-in_err-points.result c.from_residual-in_err-points.ensures.1 in
    rw p.1 (λ _. account_short c.args.from.now.0 (search rules))

pub returns-in_err-memory-clause-malformed : goal.returns-in_err-memory-clause-malformed
returns-in_err-memory-clause-malformed c =
    let p = err_from_is_err_and c.from_residual-in_err-memory.result c.from_residual-in_err-memory.ensures.1 in
    rw (p.1, p.2) (λ is account rest begins.
    let leads = leads_account c.args.from.now.0 account rest begins in
    let same = behind_points account c.in_ok-player.player c.in_ok-limit.limit c.in_ok-bucket.bucket c.in_ok-points.points c.args.from.now.0 c.u32.new.self.0 c.u32-2.new.self.0 c.u32-3.new.self.0 c.u64.new.self.0 rest (search rules) (search rules) (search rules) (search rules) c.in_ok-player.ensures.found c.in_ok-limit.ensures.found c.in_ok-bucket.ensures.found c.in_ok-points.ensures.found leads in
    c.in_err-memory.ensures.malformed is account.memory rest (account_memory account leads.form) same.behind)

pub returns-clause-found : goal.returns-clause-found
returns-clause-found c =
    let text = c.in_ok-memory.ensures.found.0 in
    account_begins _ c.args.from.now.0 c.u32.new.self.0 c.u32-2.new.self.0 c.u32-3.new.self.0 c.u64.new.self.0 c.read_memory.new.from.0
    (record { memory = text.memory; bytes = text.bytes; player = search rules; limit = search rules; bucket = search rules; points = search rules })
    c.in_ok-player.ensures.found c.in_ok-limit.ensures.found c.in_ok-bucket.ensures.found c.in_ok-points.ensures.found c.in_ok-memory.ensures.found.1
