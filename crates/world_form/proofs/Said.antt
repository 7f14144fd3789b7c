-- The keys say something exactly where all checks hold.
use Rattle.std.proofs.Common.{◌≡◌, ℕ, ◌≤◌, ◌⊎◌, List, [], Some, option_and_then, refl, sym, ap, subst, ◌∙◌, inl, inr, arith}
use Rattle.serde_json.specs.Data.{Data, Items, no_items}
use Rattle.serde_json.specs.Find.{get, as_array}
use Rattle.game_tables.specs.Kinds.{hits_max}
use Rattle.game_tables.specs.Limits.{most_bucket, most_points}
use Rattle.room_table.specs.declared.object.Object.{Object}
use Rattle.world_rules.specs.World.{ListedRoom}
use Rattle.world_form.specs.declared.field.Field.{Field}
use Rattle.world_form.specs.declared.field.Field.TheVariants as fields
use Rattle.world_form.specs.Keys.{key}
use Rattle.world_form.specs.Facts.{Requires, Defaults, IsWhole, IsWhole32, IsWhole53, IsList, IsListOf, IsBodyList, IsTokenText, IsMemoryText, SaysObject, SaysRoom, Player, SaysPlayer, Filed, SaysWorld}
use Rattle.world_form.specs.FirstFaults.{Check, AllHold, IsAbsent, IsFormed, each_from, values_of, values_at, object_checks, room_checks, player_checks, world_checks}
use Rattle.world_form.proofs.Checks.{hold_append, hold_front, hold_back, each_hold, each_held}

-- ---- single keys

pub default_holds : {A : Type 0} (field : Field) (Form : Data → A → Type 0) (default : A) (part : Data) (said : A) → Defaults field Form default part said → IsFormed field Form part ⊎ IsAbsent field part
default_holds field Form default part said (inl here) = inl (said, here)
default_holds field Form default part said (inr absent) = inr absent.0

pub default_held : {A : Type 0} (field : Field) (Form : Data → A → Type 0) (default : A) (part : Data) → IsFormed field Form part ⊎ IsAbsent field part → (said : A) × Defaults field Form default part said
default_held field Form default part (inl formed) = (formed.0, inl formed.1)
default_held field Form default part (inr absent) = (default, inr (absent, refl))

-- ---- the list at a key

pub values_there : (field : Field) (part value : Data) (values : Items) → get (key field) part ≡ Some value → IsList value values → values_at field part ≡ values
values_there field part value values at is = ap (λ found. values_of (option_and_then as_array found)) (at ∙ ap Some is)

pub values_nowhere : (field : Field) (part : Data) → IsAbsent field part → values_at field part ≡ no_items
values_nowhere field part absent = ap (λ found. values_of (option_and_then as_array found)) absent

pub listed_holds : {A : Type 0} (field : Field) (Says : Data → A → Type 0) (checks : ℕ → Data → List Check) → ((place : ℕ) (value : Data) (said : A) → Says value said → AllHold (checks place value))
    → (part : Data) (list : List A) → Requires field (IsListOf Says) part list → IsFormed field IsList part × AllHold (each_from checks 0 (values_at field part))
listed_holds field Says checks hold part list there =
    let values = there.2.0 in (
      (values, (there.0, there.1, there.2.1)),
      subst (λ values. AllHold (each_from checks 0 values)) (sym (values_there field part there.0 values there.1 there.2.1)) (each_hold Says checks hold 0 values list there.2.2),
    )

pub listed_held : {A : Type 0} (field : Field) (Says : Data → A → Type 0) (checks : ℕ → Data → List Check) → ((place : ℕ) (value : Data) → AllHold (checks place value) → (said : A) × Says value said)
    → (part : Data) → IsFormed field IsList part → AllHold (each_from checks 0 (values_at field part)) → (list : List A) × Requires field (IsListOf Says) part list
listed_held field Says checks held part formed hold =
    let values = formed.0 in
    let each = each_held Says checks held 0 values (subst (λ values. AllHold (each_from checks 0 values)) (values_there field part formed.1.0 values formed.1.1 formed.1.2) hold) in
    (each.0, (formed.1.0, formed.1.1, (values, formed.1.2, each.1)))

-- ---- what is said passes the checks

pub object_holds : (place : ℕ) (part : Data) (o : Object) → SaysObject part o → AllHold (object_checks place part)
object_holds place part o s = (
  (o.id, s.id),
  (
    (o.kind, s.kind),
    (
      (o.kind, s.kind, s.in_rules),
      (
        (o.x, s.x),
        (
          (o.y, s.y),
          (
            default_holds fields.Owner IsWhole32 0 part o.owner s.owner,
            (
              default_holds fields.Body IsBodyList [] part o.body s.body,
              (
                default_holds fields.Hits IsWhole32 (hits_max o.kind o.body) part o.hits s.hits,
                (
                  default_holds fields.Energy IsWhole53 0 part o.energy s.energy,
                  (
                    default_holds fields.Timer IsWhole32 0 part o.timer s.timer,
                    (
                      default_holds fields.Extra IsWhole32 0 part o.extra s.extra,
                      (
                        default_holds fields.Progress IsWhole53 0 part o.progress s.progress,
                        (
                          default_holds fields.Other IsWhole32 0 part o.other s.other,
                          (default_holds fields.OtherTicks IsWhole32 0 part o.other_ticks s.other_ticks, tt),
                        ),
                      ),
                    ),
                  ),
                ),
              ),
            ),
          ),
        ),
      ),
    ),
  ),
)

pub room_holds : (place : ℕ) (part : Data) (room : ListedRoom) → SaysRoom part room → AllHold (room_checks place part)
room_holds place part room s =
    let objects = listed_holds fields.Objects SaysObject object_checks object_holds part room.objects s.objects in
    ((room.frame.name, s.name), ((room.frame.grounds, s.terrain), ((room.frame.next, s.next), (objects.0, objects.1))))

pub player_holds : (place : ℕ) (part : Data) (player : Player) → SaysPlayer part player → AllHold (player_checks place part)
player_holds place part player s = (
  (player.account.player, s.number),
  (
    default_holds fields.Token IsTokenText [] part player.token s.token,
    (
      (player.account.limit, s.limit),
      (
        default_holds fields.Bucket (IsWhole 0 most_bucket) 0 part player.account.bucket s.bucket,
        (
          default_holds fields.Points (IsWhole 0 most_points) 0 part player.account.points s.points,
          (default_holds fields.Memory IsMemoryText [] part player.account.memory s.memory, tt),
        ),
      ),
    ),
  ),
)

pub players_hold : (part : Data) (players : List Player) → Defaults fields.Players (IsListOf SaysPlayer) [] part players
    → (IsFormed fields.Players IsList part ⊎ IsAbsent fields.Players part) × AllHold (each_from player_checks 0 (values_at fields.Players part))
players_hold part players (inl there) = let all = listed_holds fields.Players SaysPlayer player_checks player_holds part players there in (inl all.0, all.1)
players_hold part players (inr absent) = (inr absent.0, subst (λ values. AllHold (each_from player_checks 0 values)) (sym (values_nowhere fields.Players part absent.0)) tt)

-- where the keys say a world, all checks hold
pub world_holds : (part : Data) (filed : Filed) → SaysWorld part filed → AllHold (world_checks part)
world_holds part filed s =
    let rooms = listed_holds fields.Rooms SaysRoom room_checks room_holds part filed.rooms s.rooms in
    let players = players_hold part filed.players s.players in
    ((1, s.version), ((filed.tick, s.tick), (rooms.0, hold_append (each_from room_checks 0 (values_at fields.Rooms part)) _ rooms.1 (players.0, players.1))))

-- ---- what passes the checks is said

object_held : (place : ℕ) (part : Data) → AllHold (object_checks place part) → (o : Object) × SaysObject part o
object_held place part (id, (formed, (kind, (x, (y, (owner, (body, (hits, (energy, (timer, (extra, (progress, (other, (other_ticks, done)))))))))))))) =
    let owner_said = default_held fields.Owner IsWhole32 0 part owner in
    let body_said = default_held fields.Body IsBodyList [] part body in
    let hits_said = default_held fields.Hits IsWhole32 (hits_max kind.0 body_said.0) part hits in
    let energy_said = default_held fields.Energy IsWhole53 0 part energy in
    let timer_said = default_held fields.Timer IsWhole32 0 part timer in
    let extra_said = default_held fields.Extra IsWhole32 0 part extra in
    let progress_said = default_held fields.Progress IsWhole53 0 part progress in
    let other_said = default_held fields.Other IsWhole32 0 part other in
    let ticks_said = default_held fields.OtherTicks IsWhole32 0 part other_ticks in (
      record {
        id = id.0;
        kind = kind.0;
        x = x.0;
        y = y.0;
        owner = owner_said.0;
        hits = hits_said.0;
        energy = energy_said.0;
        timer = timer_said.0;
        extra = extra_said.0;
        progress = progress_said.0;
        other = other_said.0;
        other_ticks = ticks_said.0;
        body = body_said.0;
      },
      record {
        id = id.1;
        kind = kind.1;
        in_rules = kind.2;
        x = x.1;
        y = y.1;
        owner = owner_said.1;
        body = body_said.1;
        hits = hits_said.1;
        energy = energy_said.1;
        timer = timer_said.1;
        extra = extra_said.1;
        progress = progress_said.1;
        other = other_said.1;
        other_ticks = ticks_said.1;
      },
    )

room_held : (place : ℕ) (part : Data) → AllHold (room_checks place part) → (room : ListedRoom) × SaysRoom part room
room_held place part (name, (terrain, (next, (formed, hold)))) =
    let objects = listed_held fields.Objects SaysObject object_checks object_held part formed hold in (
      record { frame = record { name = name.0; grounds = terrain.0; next = next.0 }; objects = objects.0 },
      record { name = name.1; terrain = terrain.1; next = next.1; objects = objects.1 },
    )

player_held : (place : ℕ) (part : Data) → AllHold (player_checks place part) → (player : Player) × SaysPlayer part player
player_held place part (number, (token, (limit, (bucket, (points, (memory, done)))))) =
    let token_said = default_held fields.Token IsTokenText [] part token in
    let bucket_said = default_held fields.Bucket (IsWhole 0 most_bucket) 0 part bucket in
    let points_said = default_held fields.Points (IsWhole 0 most_points) 0 part points in
    let memory_said = default_held fields.Memory IsMemoryText [] part memory in (
      record { account = record { player = number.0; limit = limit.0; bucket = bucket_said.0; points = points_said.0; memory = memory_said.0 }; token = token_said.0 },
      record { number = number.1; token = token_said.1; limit = limit.1; bucket = bucket_said.1; points = points_said.1; memory = memory_said.1 },
    )

players_held : (part : Data) → IsFormed fields.Players IsList part ⊎ IsAbsent fields.Players part → AllHold (each_from player_checks 0 (values_at fields.Players part))
    → (players : List Player) × Defaults fields.Players (IsListOf SaysPlayer) [] part players
players_held part (inl formed) hold = let all = listed_held fields.Players SaysPlayer player_checks player_held part formed hold in (all.0, inl all.1)
players_held part (inr absent) hold = ([], inr (absent, refl))

-- where all checks hold, the keys say a world
version_said : (part : Data) → IsFormed fields.Version (IsWhole 1 1) part → Requires fields.Version (IsWhole 1 1) part 1
version_said part formed =
    let low : 1 ≤ formed.0 = formed.1.2.1 in
    let high : formed.0 ≤ 1 = formed.1.2.2 in
    let one : formed.0 ≡ 1 = omega arith in
    subst (Requires fields.Version (IsWhole 1 1) part) one formed.1

pub world_held : (part : Data) → AllHold (world_checks part) → (filed : Filed) × SaysWorld part filed
world_held part (version, (tick, (formed, hold))) =
    let front = hold_front (each_from room_checks 0 (values_at fields.Rooms part)) _ hold in
    let back = hold_back (each_from room_checks 0 (values_at fields.Rooms part)) _ hold in
    let rooms = listed_held fields.Rooms SaysRoom room_checks room_held part formed front in
    let players = players_held part back.0 back.1 in (
      record { tick = tick.0; rooms = rooms.0; players = players.0 },
      record { version = version_said part version; tick = tick.1; rooms = rooms.1; players = players.1 },
    )
