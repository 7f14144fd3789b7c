-- A disk in memory, by what a crash may leave of it.
use Rattle.std.specs.Prelude.{List}
use Rattle.world_io.specs.Changes.{moments_of}
use Rattle.world_io.specs.Moments.{Moment}
use Rattle.world_io.specs.declared.memory_disk.MemoryDisk.{MemoryDisk}

-- its moments so far, the latest first
abbrev pub moments_now : MemoryDisk → List Moment
moments_now disk = moments_of disk.bytes.items disk.calls.items
