use Rattle.std.proofs.Common.{rules}
use Rattle.std.proofs.lemmas.Result.{err_from_is_err_and}
use Rattle.world_bytes.proofs.Words.{word_short}
use Rattle.tick_journal.proofs.BaseContents.{accounts_lead}
use Rattle.tick_journal.proofs.Ticks.{behind_accounts, behind_runs, behind_tag, behind_tick, behind_uploads, no_accounts_read, no_tag, tick_accounts, tick_is, tick_runs, tick_tables, tick_uploads, tick_whole}
use Rattle.tick_journal.proofs.tick_reader.read_record.Goals as goal

pub returns-in_err-read_tag-clause-malformed : goal.returns-in_err-read_tag-clause-malformed
returns-in_err-read_tag-clause-malformed c =
    let p = err_from_is_err_and c.from_residual.result c.from_residual.ensures.1 in
    rw (p.1, p.2) (λ is entry rest form e. no_tag entry c.args.from.now.0 rest (c.in_err-read_tag.ensures.malformed is) e)

pub returns-in_err-tick-clause-malformed : goal.returns-in_err-tick-clause-malformed
returns-in_err-tick-clause-malformed c =
    let p = err_from_is_err_and c.from_residual-in_err-tick.result c.from_residual-in_err-tick.ensures.1 in
    rw p.1 (λ _ entry rest form e.
    word_short 8 entry.tick c.read_tag.new.from.0 _ c.in_err-tick.ensures.short (behind_tag entry c.args.from.now.0 c.read_tag.new.from.0 rest c.in_ok-read_tag.ensures.found e))

pub returns-in_err-uploads-clause-malformed : goal.returns-in_err-uploads-clause-malformed
returns-in_err-uploads-clause-malformed c =
    let p = err_from_is_err_and c.from_residual-in_err-uploads.result c.from_residual-in_err-uploads.ensures.1 in
    rw (p.1, p.2) (λ is entry rest form e.
    let one = behind_tick entry c.in_ok-tick.tick c.args.from.now.0 c.read_tag.new.from.0 c.u64.new.self.0 rest (search rules) form c.in_ok-read_tag.ensures.found c.in_ok-tick.ensures.found e in
    c.in_err-uploads.ensures.malformed is entry.uploads _ (tick_uploads entry form) one.1)

pub returns-in_err-runs-clause-malformed : goal.returns-in_err-runs-clause-malformed
returns-in_err-runs-clause-malformed c =
    let p = err_from_is_err_and c.from_residual-in_err-runs.result c.from_residual-in_err-runs.ensures.1 in
    rw (p.1, p.2) (λ is entry rest form e.
    let one = behind_tick entry c.in_ok-tick.tick c.args.from.now.0 c.read_tag.new.from.0 c.u64.new.self.0 rest (search rules) form c.in_ok-read_tag.ensures.found c.in_ok-tick.ensures.found e in
    let two = behind_uploads entry c.in_ok-uploads.uploads.items c.u64.new.self.0 c.read_uploads.new.from.0 rest form c.in_ok-uploads.ensures.found one.1 in
    c.in_err-runs.ensures.malformed is entry.runs _ (tick_runs entry form) two.1)

pub returns-in_err-accounts-clause-malformed : goal.returns-in_err-accounts-clause-malformed
returns-in_err-accounts-clause-malformed c =
    let p = err_from_is_err_and c.from_residual-in_err-accounts.result c.from_residual-in_err-accounts.ensures.1 in
    rw (p.1, p.2) (λ is entry rest form e.
    let one = behind_tick entry c.in_ok-tick.tick c.args.from.now.0 c.read_tag.new.from.0 c.u64.new.self.0 rest (search rules) form c.in_ok-read_tag.ensures.found c.in_ok-tick.ensures.found e in
    let two = behind_uploads entry c.in_ok-uploads.uploads.items c.u64.new.self.0 c.read_uploads.new.from.0 rest form c.in_ok-uploads.ensures.found one.1 in
    let three = behind_runs entry c.in_ok-runs.runs.items c.read_uploads.new.from.0 c.read_runs.new.from.0 rest form c.in_ok-runs.ensures.found two.1 in
    no_accounts_read c.read_runs.new.from.0 (c.in_err-accounts.ensures.malformed is) entry.accounts _ (tick_accounts entry form) three.1)

pub returns-in_err-rooms-clause-malformed : goal.returns-in_err-rooms-clause-malformed
returns-in_err-rooms-clause-malformed c =
    let p = err_from_is_err_and c.from_residual-in_err-rooms.result c.from_residual-in_err-rooms.ensures.1 in
    rw (p.1, p.2) (λ is entry rest form e.
    let one = behind_tick entry c.in_ok-tick.tick c.args.from.now.0 c.read_tag.new.from.0 c.u64.new.self.0 rest (search rules) form c.in_ok-read_tag.ensures.found c.in_ok-tick.ensures.found e in
    let two = behind_uploads entry c.in_ok-uploads.uploads.items c.u64.new.self.0 c.read_uploads.new.from.0 rest form c.in_ok-uploads.ensures.found one.1 in
    let three = behind_runs entry c.in_ok-runs.runs.items c.read_uploads.new.from.0 c.read_runs.new.from.0 rest form c.in_ok-runs.ensures.found two.1 in
    let read = accounts_lead c.read_runs.new.from.0 c.in_ok-accounts.accounts.items c.read_accounts.new.from.0 c.in_ok-accounts.ensures.found in
    let four = behind_accounts entry c.in_ok-accounts.accounts.items c.read_runs.new.from.0 c.read_accounts.new.from.0 rest form read three.1 in
    c.in_err-rooms.ensures.malformed is entry.rooms rest (tick_tables entry form) four.1)

pub returns-clause-found : goal.returns-clause-found
returns-clause-found c =
    let accounts = accounts_lead c.read_runs.new.from.0 c.in_ok-accounts.accounts.items c.read_accounts.new.from.0 c.in_ok-accounts.ensures.found in
    rw (c.from_vec.ensures, c.from_vec-2.ensures, c.from_vec-3.ensures, c.from_vec-4.ensures) (
      tick_is _ (search rules) c.in_ok-uploads.ensures.found.0 c.in_ok-runs.ensures.found.0 accounts.0 c.in_ok-rooms.ensures.found.0,
      tick_whole _ c.args.from.now.0 c.read_tag.new.from.0 c.u64.new.self.0 c.read_uploads.new.from.0 c.read_runs.new.from.0 c.read_accounts.new.from.0 c.read_tables.new.from.0 c.in_ok-read_tag.ensures.found c.in_ok-tick.ensures.found c.in_ok-uploads.ensures.found.1 c.in_ok-runs.ensures.found.1 accounts.1 c.in_ok-rooms.ensures.found.1,
    )
