-- The shortest text of the players' module has at most 1 MiB.
use Rattle.std.proofs.Common.{ℕ, ◌+◌, ◌^◌, ◌≤◌, List, arith, lit≤}
use Rattle.byte_fields.specs.Front.{SpellsShortest}
use Rattle.wasm_module.specs.Limits.{WithinBytes}
use Rattle.wasm_module.specs.Sections.{Spells}
use Rattle.wasm_encode.specs.Encodable.{weight}
use Rattle.wasm_encode.proofs.Exists.{encodable_text}
use Rattle.world_gen.specs.PlayerModule.{again, both_fields, both_ids, delivers, direction, drops, either, field, harvests, has_room, host_calls, host_types, in_room, is_seen, look, loop_codes, of_kind, on_code, own, own_creep, player_module, seek, sign, source_sought, spawn_sought, steps, to_next, turn, turns, visit, when}
use Rattle.world_gen.proofs.Encodes.{encodable}

is_light : 97 + weight player_module ≤ 2 ^ 20
unfolding player_module host_types host_calls loop_codes turns visit own_creep turn has_room delivers harvests drops steps direction sign on_code both_ids seek look spawn_sought source_sought again either when is_seen to_next in_room both_fields own of_kind field
is_light = lit≤ tt

pub module_short : (text : List ℕ) → SpellsShortest Spells text player_module → WithinBytes text
module_short text shortest =
    let some = encodable_text player_module encodable in
    omega (arith, shortest.1 some.text some.spelled, some.short, is_light)
