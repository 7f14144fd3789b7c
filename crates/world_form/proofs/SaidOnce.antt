-- The keys of a file say one world at most.
use Rattle.std.proofs.Common.{◌≡◌, ℕ, ◌-◌, ◌^◌, [], refl, ap₂}
use Rattle.serde_json.specs.Data.{Data}
use Rattle.game_tables.specs.Kinds.{hits_max}
use Rattle.game_tables.specs.Limits.{most_limit, most_bucket, most_points}
use Rattle.world_form.specs.declared.field.Field.{Field}
use Rattle.world_form.specs.declared.field.Field.TheVariants as fields
use Rattle.world_form.specs.Facts.{Requires, Defaults, IsWhole, IsWhole32, IsListOf, IsKindText, IsBodyList, IsNameText, IsTerrainText, IsTokenText, IsMemoryText, SaysObject, SaysRoom, SaysPlayer, SaysWorld}
use Rattle.world_form.proofs.Forms.{IsOne, whole_one, kind_one, body_one, name_one, terrain_one, token_one, memory_one, required_one, default_one, list_of_one}

number_one : (field : Field) (low high : ℕ) (part : Data) (n m : ℕ) → Requires field (IsWhole low high) part n → Requires field (IsWhole low high) part m → n ≡ m
number_one field low high part n m = required_one field (IsWhole low high) (whole_one low high) part n m

number_or_zero : (field : Field) (high : ℕ) (part : Data) (n m : ℕ) → Defaults field (IsWhole 0 high) 0 part n → Defaults field (IsWhole 0 high) 0 part m → n ≡ m
number_or_zero field high part n m = default_one field (IsWhole 0 high) (whole_one 0 high) 0 0 refl part n m

object_one : IsOne SaysObject
object_one part o p s t =
    let id = number_one fields.Id 1 (2 ^ 53) part o.id p.id s.id t.id in
    let kind = required_one fields.Kind IsKindText kind_one part o.kind p.kind s.kind t.kind in
    let x = number_one fields.X 0 49 part o.x p.x s.x t.x in
    let y = number_one fields.Y 0 49 part o.y p.y s.y t.y in
    let owner = number_or_zero fields.Owner (2 ^ 32 - 1) part o.owner p.owner s.owner t.owner in
    let body = default_one fields.Body IsBodyList body_one [] [] refl part o.body p.body s.body t.body in
    let full = ap₂ hits_max kind body in
    let hits = default_one fields.Hits IsWhole32 (whole_one 0 (2 ^ 32 - 1)) (hits_max o.kind o.body) (hits_max p.kind p.body) full part o.hits p.hits s.hits t.hits in
    let energy = number_or_zero fields.Energy (2 ^ 53) part o.energy p.energy s.energy t.energy in
    let timer = number_or_zero fields.Timer (2 ^ 32 - 1) part o.timer p.timer s.timer t.timer in
    let extra = number_or_zero fields.Extra (2 ^ 32 - 1) part o.extra p.extra s.extra t.extra in
    let progress = number_or_zero fields.Progress (2 ^ 53) part o.progress p.progress s.progress t.progress in
    let other = number_or_zero fields.Other (2 ^ 32 - 1) part o.other p.other s.other t.other in
    let ticks = number_or_zero fields.OtherTicks (2 ^ 32 - 1) part o.other_ticks p.other_ticks s.other_ticks t.other_ticks in
    λ i. record {
      id = id i;
      kind = kind i;
      x = x i;
      y = y i;
      owner = owner i;
      hits = hits i;
      energy = energy i;
      timer = timer i;
      extra = extra i;
      progress = progress i;
      other = other i;
      other_ticks = ticks i;
      body = body i;
    }

room_one : IsOne SaysRoom
room_one part room other s t =
    let name = required_one fields.Name IsNameText name_one part room.frame.name other.frame.name s.name t.name in
    let grounds = required_one fields.Terrain IsTerrainText terrain_one part room.frame.grounds other.frame.grounds s.terrain t.terrain in
    let next = number_one fields.Next 1 (2 ^ 32 - 1) part room.frame.next other.frame.next s.next t.next in
    let objects = required_one fields.Objects (IsListOf SaysObject) (list_of_one SaysObject object_one) part room.objects other.objects s.objects t.objects in
    λ i. record { frame = record { name = name i; grounds = grounds i; next = next i }; objects = objects i }

player_one : IsOne SaysPlayer
player_one part player other s t =
    let number = number_one fields.Player 1 (2 ^ 32 - 1) part player.account.player other.account.player s.number t.number in
    let token = default_one fields.Token IsTokenText token_one [] [] refl part player.token other.token s.token t.token in
    let limit = number_one fields.Limit 0 most_limit part player.account.limit other.account.limit s.limit t.limit in
    let bucket = number_or_zero fields.Bucket most_bucket part player.account.bucket other.account.bucket s.bucket t.bucket in
    let points = number_or_zero fields.Points most_points part player.account.points other.account.points s.points t.points in
    let memory = default_one fields.Memory IsMemoryText memory_one [] [] refl part player.account.memory other.account.memory s.memory t.memory in
    λ i. record { account = record { player = number i; limit = limit i; bucket = bucket i; points = points i; memory = memory i }; token = token i }

pub world_one : IsOne SaysWorld
world_one part filed other s t =
    let tick = number_one fields.Tick 0 (2 ^ 53) part filed.tick other.tick s.tick t.tick in
    let rooms = required_one fields.Rooms (IsListOf SaysRoom) (list_of_one SaysRoom room_one) part filed.rooms other.rooms s.rooms t.rooms in
    let players = default_one fields.Players (IsListOf SaysPlayer) (list_of_one SaysPlayer player_one) [] [] refl part filed.players other.players s.players t.players in
    λ i. record { tick = tick i; rooms = rooms i; players = players i }
