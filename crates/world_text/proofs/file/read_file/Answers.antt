use Rattle.std.proofs.Common.{◌≡◌, ◌≤◌, ◌∷◌, inr, refl, subst, arith}
use Rattle.std.proofs.lemmas.Result.{err_from_is_err_and}
use Rattle.serde_json.specs.View.{view}
use Rattle.world_form.specs.declared.field.Field.TheVariants as fields
use Rattle.world_form.specs.Facts.{Requires, IsWhole, IsList, SaysRoom}
use Rattle.world_form.specs.FirstFaults.{optional, each_from, values_at, room_checks, player_checks}
use Rattle.world_form.proofs.Checks.{first_append, first_later}
use Rattle.world_form.proofs.Said.{listed_holds, room_holds}
use Rattle.world_text.specs.inner.Readings.{list_checks}
use Rattle.world_text.proofs.file.read_file.Goals as goal

pub returns-in_err-rooms-clause-err : goal.returns-in_err-rooms-clause-err
returns-in_err-rooms-clause-err c =
    let part = view c.args.part.now in
    let p = err_from_is_err_and c.from_residual-in_err-rooms.result c.from_residual-in_err-rooms.ensures.1 in
    rw (p.1, p.2) (λ other.
    inr (
      (c.in_ok-_version._version, c.in_ok-_version.ensures.ok),
      inr (
        (c.in_ok-tick.tick, c.in_ok-tick.ensures.ok),
        first_append (list_checks fields.Rooms room_checks 0 part) (optional fields.Players IsList 0 part ∷ each_from player_checks 0 (values_at fields.Players part)) _ (c.in_err-rooms.ensures.err other),
      ),
    ))

pub returns-in_err-players-clause-err : goal.returns-in_err-players-clause-err
returns-in_err-players-clause-err c =
    let part = view c.args.part.now in
    let said = c.in_ok-rooms.ensures.ok in
    let p = err_from_is_err_and c.from_residual-in_err-players.result c.from_residual-in_err-players.ensures.1 in
    rw (p.1, p.2) (λ other.
    inr (
      (c.in_ok-_version._version, c.in_ok-_version.ensures.ok),
      inr (
        (c.in_ok-tick.tick, c.in_ok-tick.ensures.ok),
        first_later (list_checks fields.Rooms room_checks 0 part) (optional fields.Players IsList 0 part ∷ each_from player_checks 0 (values_at fields.Players part)) _
            (listed_holds fields.Rooms SaysRoom room_checks room_holds part said.0 said.1) (c.in_err-players.ensures.err other),
      ),
    ))

pub returns-clause-ok : goal.returns-clause-ok
returns-clause-ok c =
    let version = c.in_ok-_version.ensures.ok in
    let low : 1 ≤ c.in_ok-_version._version = version.2.1 in
    let high : c.in_ok-_version._version ≤ 1 = version.2.2 in
    let one : c.in_ok-_version._version ≡ 1 = omega arith in
    let rooms = c.in_ok-rooms.ensures.ok in
    let players = c.in_ok-players.ensures.ok in (
      record { tick = c.in_ok-tick.tick; rooms = rooms.0; players = players.0 },
      record { version = subst (Requires fields.Version (IsWhole 1 1) (view c.args.part.now)) one version; tick = c.in_ok-tick.ensures.ok; rooms = rooms.1; players = players.1 },
      record { tick = refl; rooms = rooms.2; players = players.2 },
    )
