use Rattle.std.proofs.Common.{◌≡◌, ◌+◌, ◌-◌, ◌^◌, ◌<◌, ◌==◌, if◌then◌else◌, ℕ, min, length, get_or, set, subst, arith}
use Rattle.std.proofs.lemmas.Option.{slice_get-get_or}
use Rattle.ruled_tick.specs.inner.Entered.{AreGains}
use Rattle.ruled_tick.proofs.Gaining.{added_at, added_to_none}
use Rattle.ruled_tick.proofs.gains.add_gain.Goals as goal

pub returns-in-Ok : goal.returns-in-Ok
returns-in-Ok c = λ gain are.
    let accounts = c.args.accounts.now in
    let gains = c.args.gains.now in
    let player : ℕ = c.args.player in
    let points : ℕ = c.args.points in
    let place : ℕ = c.in-Ok.place in
    let own = c.in-Ok.ensures.found in
    let inside : place < length gains = omega (arith, own.inside, c.requires.long) in
    let was : ℕ = get_or gains place 0 in
    let sum : min (2 ^ 64 - 1) (was + points) ≡ c.saturating_add.result = omega (arith, c.saturating_add.ensures, c.from.ensures) in
    subst (λ (n : ℕ). AreGains (λ other. gain other + (if player == other then points else 0)) accounts (set gains place n)) sum
    (added_at accounts c.requires.rising gains gain player points are place own was (slice_get-get_or gains place 0 inside))

pub returns-in_default : goal.returns-in_default
returns-in_default c = λ gain are. added_to_none c.args.accounts.now c.requires.rising c.args.gains.now gain c.args.player c.args.points are c.in_default.ensures.absent
