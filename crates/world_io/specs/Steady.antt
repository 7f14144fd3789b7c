-- The bytes of the devices in memory that never fail while there is room.
use Rattle.std.specs.Prelude.{ℕ, ◌-◌, List, length, take, drop}
use Rattle.world_io.specs.declared.steady.SteadySource.{SteadySource}
use Rattle.world_io.specs.declared.steady.SteadySink.{SteadySink}

-- what a source has left to give
abbrev pub left_of : SteadySource → List ℕ
left_of source = drop source.place source.bytes.items

-- what a sink was given
abbrev pub written_to : SteadySink → List ℕ
written_to sink = take sink.used sink.room.items

-- how many bytes more a sink can take
abbrev pub room_in : SteadySink → ℕ
room_in sink = length sink.room.items - sink.used
