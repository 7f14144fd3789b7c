-- The number and the fault line of a status.
use Rattle.std.specs.Prelude.{ℕ, List, ◌++◌, Option, Some, None, decimal, codes}
use Rattle.game_tables.specs.declared.kind.Kind.{Kind}
use Rattle.game_tables.specs.declared.kind.Kind.TheVariants as kinds
use Rattle.world_rules.specs.declared.rule.Rule.{Rule}
use Rattle.world_rules.specs.declared.rule.Rule.TheVariants as rules
use Rattle.world_form.specs.declared.field.Field.{Field}
use Rattle.world_form.specs.declared.field.Field.TheVariants as fields
use Rattle.world_form.specs.declared.fault.WorldFault.{WorldFault}
use Rattle.world_form.specs.declared.fault.WorldFault.TheVariants as faults
use Rattle.intent_book.specs.Refusals.{refusal_name}
use Rattle.run_status.specs.declared.status.Status.{Status}
use Rattle.run_status.specs.declared.status.Status.TheVariants as statuses

abbrev pub field_name : Field → List ℕ
field_name fields.Version = codes "Version"
field_name fields.Tick = codes "Tick"
field_name fields.Rooms = codes "Rooms"
field_name fields.Players = codes "Players"
field_name fields.Name = codes "Name"
field_name fields.Terrain = codes "Terrain"
field_name fields.Next = codes "Next"
field_name fields.Objects = codes "Objects"
field_name fields.Id = codes "Id"
field_name fields.Kind = codes "Kind"
field_name fields.X = codes "X"
field_name fields.Y = codes "Y"
field_name fields.Owner = codes "Owner"
field_name fields.Body = codes "Body"
field_name fields.Hits = codes "Hits"
field_name fields.Energy = codes "Energy"
field_name fields.Timer = codes "Timer"
field_name fields.Extra = codes "Extra"
field_name fields.Progress = codes "Progress"
field_name fields.Other = codes "Other"
field_name fields.OtherTicks = codes "OtherTicks"
field_name fields.Player = codes "Player"
field_name fields.Token = codes "Token"
field_name fields.Limit = codes "Limit"
field_name fields.Bucket = codes "Bucket"
field_name fields.Points = codes "Points"
field_name fields.Memory = codes "Memory"

abbrev pub kind_name : Kind → List ℕ
kind_name kinds.Source = codes "Source"
kind_name kinds.Controller = codes "Controller"
kind_name kinds.Creep = codes "Creep"
kind_name kinds.Spawn = codes "Spawn"
kind_name kinds.Extension = codes "Extension"
kind_name kinds.Storage = codes "Storage"
kind_name kinds.Container = codes "Container"
kind_name kinds.Road = codes "Road"
kind_name kinds.Pile = codes "Pile"
kind_name kinds.Site = codes "Site"
kind_name kinds.Tower = codes "Tower"
kind_name kinds.Rampart = codes "Rampart"
kind_name kinds.Wall = codes "Wall"
kind_name kinds.Tombstone = codes "Tombstone"

abbrev pub rule_name : Rule → List ℕ
rule_name rules.Counts = codes "Counts"
rule_name rules.RoomTwice = codes "RoomTwice"
rule_name rules.Corner = codes "Corner"
rule_name rules.Serial = codes "Serial"
rule_name rules.IdTwice = codes "IdTwice"
rule_name rules.Tile = codes "Tile"
rule_name rules.Shared = codes "Shared"
rule_name rules.Owner = codes "Owner"
rule_name rules.Controllers = codes "Controllers"
rule_name rules.Range = codes "Range"
rule_name rules.PlayerTwice = codes "PlayerTwice"
rule_name rules.Sites = codes "Sites"

-- a value after a name
abbrev pub and_number : ℕ → List ℕ
and_number n = codes " " ++ decimal n

-- a byte, where there is one
abbrev pub byte_text : Option ℕ → List ℕ
byte_text None = codes "none"
byte_text (Some byte) = decimal byte

-- where the base contents of a journal and of a file differ first, and the two bytes
abbrev pub other_world_text : ℕ → Option ℕ → Option ℕ → List ℕ
other_world_text at kept given =
    codes "OtherWorld" ++ and_number at ++ codes " " ++ byte_text kept ++ codes " " ++ byte_text given

-- where a world that was recorded and one that is ruled differ first, and the two bytes
abbrev pub differs_text : ℕ → ℕ → ℕ → Option ℕ → Option ℕ → List ℕ
differs_text tick room at kept ruled =
    codes "Differs" ++ and_number tick ++ and_number room ++ and_number at ++ codes " " ++ byte_text kept
    ++ codes " " ++ byte_text ruled

-- a fault of a world file: its name, and its values each after a space
abbrev pub world_fault_text : WorldFault → List ℕ
world_fault_text faults.TooLong = codes "TooLong"
world_fault_text faults.NotJson = codes "NotJson"
world_fault_text (faults.Missing field) = codes "Missing " ++ field_name field
world_fault_text (faults.BadValue field place) = codes "BadValue " ++ field_name field ++ and_number place
world_fault_text (faults.NotBuilt kind) = codes "NotBuilt " ++ kind_name kind
world_fault_text (faults.Rule rule n) = codes "Rule " ++ rule_name rule ++ and_number n
world_fault_text faults.Memory = codes "Memory"

abbrev pub status_number : Status → ℕ
status_number statuses.Done = 0
status_number statuses.Usage = 2
status_number (statuses.World fault) = 3
status_number (statuses.Uploads at) = 4
status_number statuses.ReadFault = 5
status_number statuses.WriteFault = 6
status_number statuses.DiskFault = 7
status_number (statuses.NotAJournal at) = 8
status_number (statuses.OtherWorld at kept given) = 9
status_number (statuses.IdsExhausted index) = 10
status_number statuses.Memory = 11
status_number (statuses.Refused refusal) = 12
status_number (statuses.NoSuchTick first last) = 13
status_number (statuses.Differs tick room at kept ruled) = 14
status_number statuses.NoJournal = 15

abbrev pub status_text : Status → List ℕ
status_text statuses.Done = codes "Done"
status_text statuses.Usage = codes "Usage"
status_text (statuses.World fault) = codes "World " ++ world_fault_text fault
status_text (statuses.Uploads at) = codes "Uploads" ++ and_number at
status_text statuses.ReadFault = codes "ReadFault"
status_text statuses.WriteFault = codes "WriteFault"
status_text statuses.DiskFault = codes "DiskFault"
status_text (statuses.NotAJournal at) = codes "NotAJournal" ++ and_number at
status_text (statuses.OtherWorld at kept given) = other_world_text at kept given
status_text (statuses.IdsExhausted index) = codes "IdsExhausted" ++ and_number index
status_text statuses.Memory = codes "Memory"
status_text (statuses.Refused refusal) = codes "Refused " ++ refusal_name refusal
status_text (statuses.NoSuchTick first last) = codes "NoSuchTick" ++ and_number first ++ and_number last
status_text (statuses.Differs tick room at kept ruled) = differs_text tick room at kept ruled
status_text statuses.NoJournal = codes "NoJournal"

-- the line `fault N TEXT` of a status
abbrev pub fault_text : Status → List ℕ
fault_text status =
    codes "fault " ++ decimal (status_number status) ++ codes " " ++ status_text status ++ codes "\n"
