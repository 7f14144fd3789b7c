use Rattle.std.proofs.Common.{[], ◌∙◌, length, ap, arith}
use Rattle.std.proofs.lemmas.Result.{err_from_is_err_and}
use Rattle.object_store.specs.Stored.{Stored}
use Rattle.tick_journal.proofs.BaseContents.{base_parts, behind_start, behind_base_rooms, behind_accounts, base_whole}
use Rattle.tick_journal.proofs.read_base.read_base_form.Goals as goal

pub returns-in_err-tick-clause-malformed : goal.returns-in_err-tick-clause-malformed
returns-in_err-tick-clause-malformed c =
    let p = err_from_is_err_and c.from_residual.result c.from_residual.ensures.1 in
    rw (p.1, p.2) (λ is world spells. (rw c.over-from.ensures at c.in_err-tick.ensures.malformed) is world.tick _ spells.0.tick (spells.1 ∙ base_parts world))

pub returns-in_err-read_base_rooms-clause-malformed : goal.returns-in_err-read_base_rooms-clause-malformed
returns-in_err-read_base_rooms-clause-malformed c =
    let p = err_from_is_err_and c.from_residual-in_err-read_base_rooms.result c.from_residual-in_err-read_base_rooms.ensures.1 in
    let start = rw c.over-from.ensures at c.in_ok-tick.ensures.found in
    rw (p.1, p.2) (λ is world spells. c.in_err-read_base_rooms.ensures.malformed is world.rooms _ spells.0.rooms
    (behind_start world c.in_ok-tick.tick c.args.content.now c.read_start.new.from.0 start spells).1)

pub returns-in_err-accounts-clause-malformed : goal.returns-in_err-accounts-clause-malformed
returns-in_err-accounts-clause-malformed c =
    let p = err_from_is_err_and c.from_residual-in_err-accounts.result c.from_residual-in_err-accounts.ensures.1 in
    let start = rw c.over-from.ensures at c.in_ok-tick.ensures.found in
    rw (p.1, p.2) (λ is world spells. c.in_err-accounts.ensures.malformed is world.accounts [] spells.0.accounts
    (behind_base_rooms world c.in_ok-tick.tick c.read_base_rooms.new.world.rooms c.args.content.now c.read_start.new.from.0 c.read_base_rooms.new.from.0 start c.in_ok-read_base_rooms.ensures.found spells))

pub returns-then-left-gt0-clause-malformed : goal.returns-then-left-gt0-clause-malformed
returns-then-left-gt0-clause-malformed c =
    let start = rw c.over-from.ensures at c.in_ok-tick.ensures.found in
    λ _ world spells.
    let none = behind_accounts world c.in_ok-tick.tick c.read_base_rooms.new.world.rooms c.in_ok-accounts.accounts.items c.args.content.now c.read_start.new.from.0 c.read_base_rooms.new.from.0 c.read_base_accounts.new.from.0 start c.in_ok-read_base_rooms.ensures.found c.in_ok-accounts.ensures.found spells in
    omega (arith, ap length none, c.left.ensures, c.if-left-gt0.true)

pub returns-clause-found : goal.returns-clause-found
returns-clause-found c =
    let start = rw c.over-from.ensures at c.in_ok-tick.ensures.found in
    let tick = c.in_ok-read_base_rooms.ensures.tick ∙ ap (λ (w : Stored). w.tick) c.empty-world.ensures in
    rw c.in_ok-add_accounts.ensures (base_whole _ c.in_ok-tick.tick c.args.content.now c.read_start.new.from.0 c.read_base_rooms.new.from.0 c.read_base_accounts.new.from.0 tick start c.in_ok-read_base_rooms.ensures.found c.in_ok-accounts.ensures.found (omega (arith, c.left.ensures, c.if-left-gt0.false)))
