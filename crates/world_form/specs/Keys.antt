-- The keys of a world file.
use Rattle.std.specs.Prelude.{ℕ, List, codes}
use Rattle.world_form.specs.declared.field.Field.{Field}
use Rattle.world_form.specs.declared.field.Field.TheVariants as fields

abbrev pub key : Field → List ℕ
key fields.Version = codes "version"
key fields.Tick = codes "tick"
key fields.Rooms = codes "rooms"
key fields.Players = codes "players"
key fields.Name = codes "name"
key fields.Terrain = codes "terrain"
key fields.Next = codes "next"
key fields.Objects = codes "objects"
key fields.Id = codes "id"
key fields.Kind = codes "kind"
key fields.X = codes "x"
key fields.Y = codes "y"
key fields.Owner = codes "owner"
key fields.Body = codes "body"
key fields.Hits = codes "hits"
key fields.Energy = codes "energy"
key fields.Timer = codes "timer"
key fields.Extra = codes "extra"
key fields.Progress = codes "progress"
key fields.Other = codes "other"
key fields.OtherTicks = codes "other_ticks"
key fields.Player = codes "player"
key fields.Token = codes "token"
key fields.Limit = codes "limit"
key fields.Bucket = codes "bucket"
key fields.Points = codes "points"
key fields.Memory = codes "memory"
