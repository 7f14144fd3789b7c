use Rattle.std.proofs.Common.{rules}
use Rattle.std.proofs.lemmas.Result.{err_from_is_err_and}
use Rattle.world_bytes.proofs.Words.{behind_byte, word_short}
use Rattle.world_bytes.proofs.Fields.{head_short, head_behind_id, head_whole}
use Rattle.world_bytes.proofs.object.read_head.Goals as goal

pub returns-in_err-id-clause-none : goal.returns-in_err-id-clause-none
returns-in_err-id-clause-none c =
    let p = err_from_is_err_and c.from_residual.result c.from_residual.ensures.1 in
    rw p.1 (λ head rest form e. head_short head c.args.from.now.0 rest c.in_err-id.ensures.short e)

pub returns-in_err-kind-clause-none : goal.returns-in_err-kind-clause-none
returns-in_err-kind-clause-none c =
    let p = err_from_is_err_and c.from_residual-in_err-kind.result c.from_residual-in_err-kind.ensures.1 in
    rw p.1 (λ head rest form e.
    let one = head_behind_id head c.in_ok-id.id c.args.from.now.0 c.u64.new.self.0 rest (search rules) form c.in_ok-id.ensures.found e in
    c.in_err-kind.ensures.none head.kind _ form.kind one.1)

pub returns-in_err-x-clause-none : goal.returns-in_err-x-clause-none
returns-in_err-x-clause-none c =
    let p = err_from_is_err_and c.from_residual-in_err-x.result c.from_residual-in_err-x.ensures.1 in
    rw p.1 (λ head rest form e.
    let one = head_behind_id head c.in_ok-id.id c.args.from.now.0 c.u64.new.self.0 rest (search rules) form c.in_ok-id.ensures.found e in
    let two = behind_byte _ _ _ _ _ c.in_ok-kind.ensures.found.1 one.1 in
    c.in_err-x.ensures.none head.x _ form.column two.1)

pub returns-in_err-y-clause-none : goal.returns-in_err-y-clause-none
returns-in_err-y-clause-none c =
    let p = err_from_is_err_and c.from_residual-in_err-y.result c.from_residual-in_err-y.ensures.1 in
    rw p.1 (λ head rest form e.
    let one = head_behind_id head c.in_ok-id.id c.args.from.now.0 c.u64.new.self.0 rest (search rules) form c.in_ok-id.ensures.found e in
    let two = behind_byte _ _ _ _ _ c.in_ok-kind.ensures.found.1 one.1 in
    let three = behind_byte _ _ _ _ _ c.in_ok-x.ensures.found.1 two.1 in
    c.in_err-y.ensures.none head.y _ form.row three.1)

pub returns-in_err-owner-clause-none : goal.returns-in_err-owner-clause-none
returns-in_err-owner-clause-none c =
    let p = err_from_is_err_and c.from_residual-in_err-owner.result c.from_residual-in_err-owner.ensures.1 in
    rw p.1 (λ head rest form e.
    let one = head_behind_id head c.in_ok-id.id c.args.from.now.0 c.u64.new.self.0 rest (search rules) form c.in_ok-id.ensures.found e in
    let two = behind_byte _ _ _ _ _ c.in_ok-kind.ensures.found.1 one.1 in
    let three = behind_byte _ _ _ _ _ c.in_ok-x.ensures.found.1 two.1 in
    let four = behind_byte _ _ _ _ _ c.in_ok-y.ensures.found.1 three.1 in
    word_short 4 head.owner _ rest c.in_err-owner.ensures.short four.1)

pub returns-clause-found : goal.returns-clause-found
returns-clause-found c = (
  record { kind = c.in_ok-kind.ensures.found.0; column = c.in_ok-x.ensures.found.0; row = c.in_ok-y.ensures.found.0; id = search rules; owner = search rules },
  head_whole _ _ _ _ _ _ _ c.in_ok-id.ensures.found c.in_ok-kind.ensures.found.1 c.in_ok-x.ensures.found.1 c.in_ok-y.ensures.found.1 c.in_ok-owner.ensures.found,
)
