-- The module of the players can be written: its numbers are in their ranges, its names are texts, and it is small.
use Rattle.std.proofs.Common.{ℕ, zero, suc, ◌^◌, ◌<◌, ℤ, pos, negsuc, List, [], ◌∷◌, ◌++◌, All, refl, arith, lit<, lit≤}
use Rattle.std.specs.Prelude.{codes, slice_index}
use Rattle.std.specs.Str.{IsUtf8}
use Rattle.std.proofs.lemmas.Int.{ints}
use Rattle.std.proofs.lemmas.List.Elements.{All-from_recursion}
use Rattle.std.proofs.lemmas.Str.{IsUtf8-from_ascii}
use Rattle.wasm_values.specs.Syntax.{Op, Ops}
use Rattle.wasm_values.specs.View.{ops_of}
use Rattle.wasm_values.proofs.Groups.{compares, computes, wraps, extends}
use Rattle.wasm_module.specs.Entries.{Function}
use Rattle.wasm_module.specs.Sections.{Spells}
use Rattle.wasm_values.specs.declared.types.ValType.TheVariants.{I32}
use Rattle.wasm_values.specs.declared.imports.Import.{Import}
use Rattle.wasm_values.specs.declared.exports.Export.{Export}
use Rattle.wasm_module.specs.declared.codes.LocalRun.{LocalRun}
use Rattle.wasm_encode.specs.Encodable.{AreInstructions, IsEncodable, IsExported, IsImported, IsSigned, IsU32, weight}
use Rattle.wasm_encode.specs.inner.Gains.{IsSpelled}
use Rattle.wasm_encode.proofs.Exists.{encodable_spelled}
use Rattle.world_gen.specs.PlayerModule.{again, both_fields, both_ids, delivers, direction, directions, drops, either, field, harvests, has_room, host_calls, host_types, in_room, is_seen, look, loop_codes, loop_exports, of_kind, on_code, own, own_creep, player_module, seek, sign, source_sought, spawn_sought, steps, to_next, turn, turns, visit, when}

-- ---- code

abbrev Sound : List Op → Type 0
Sound code = AreInstructions (ops_of code)

joined : (code other : List Op) → Sound code → Sound other → Sound (code ++ other)
joined [] other p q = q
joined (op ∷ code) other p q = (p.0, joined code other p.1 q)

small : (n : ℕ) → n < 2 ^ 31 → IsSigned 32 (pos n)
small n h = (omega (arith, ints), omega (arith, ints))

long : (n : ℕ) → n < 2 ^ 63 → IsSigned 64 (pos n)
long n h = (omega (arith, ints), omega (arith, ints))

sound_field : (object number : ℕ) → object < 2 ^ 32 → number < 2 ^ 31 → Sound (field object number)
unfolding field
sound_field object number p q = (p, (small number q, (lit< tt, tt)))

sound_of_kind : (object kind : ℕ) → object < 2 ^ 32 → kind < 2 ^ 63 → Sound (of_kind object kind)
unfolding of_kind
sound_of_kind object kind p q =
    joined (field object 1) _ (sound_field object 1 p (lit< tt)) (long kind q, (compares (lit≤ tt) (lit≤ tt), tt))

sound_own : (object : ℕ) → object < 2 ^ 32 → Sound (own object)
unfolding own
sound_own object p =
    joined (field object 5) _ (sound_field object 5 p (lit< tt))
    (lit< tt, (extends (lit≤ tt) (lit≤ tt), (compares (lit≤ tt) (lit≤ tt), tt)))

sound_both_fields : (number : ℕ) → number < 2 ^ 31 → Sound (both_fields number)
unfolding both_fields
sound_both_fields number q =
    joined (field 1 number) (field 0 number) (sound_field 1 number (lit< tt) q) (sound_field 0 number (lit< tt) q)

sound_in_room : Sound in_room
unfolding in_room
sound_in_room = joined (both_fields 2) _ (sound_both_fields 2 (lit< tt)) (compares (lit≤ tt) (lit≤ tt), tt)

sound_to_next : (object : ℕ) → object < 2 ^ 32 → Sound (to_next object)
unfolding to_next
sound_to_next object p = (p, (small 1 (lit< tt), (computes (lit≤ tt) (lit≤ tt), (p, (lit< tt, tt)))))

sound_is_seen : (object : ℕ) → object < 2 ^ 32 → Sound (is_seen object)
unfolding is_seen
sound_is_seen object p = (p, (lit< tt, (compares (lit≤ tt) (lit≤ tt), tt)))

sound_when : (code : List Op) → Sound code → Sound (when code)
unfolding when
sound_when code p = ((p, tt), tt)

sound_either : (code other : List Op) → Sound code → Sound other → Sound (either code other)
unfolding either
sound_either code other p q = ((p, q), tt)

sound_again : (code : List Op) → Sound code → Sound (again code)
unfolding again
sound_again code p = (p, tt)

sound_source_sought : Sound source_sought
unfolding source_sought
sound_source_sought =
    joined (of_kind 1 1) _ (sound_of_kind 1 1 (lit< tt) (lit< tt))
    (joined in_room _ sound_in_room (computes (lit≤ tt) (lit≤ tt), tt))

sound_spawn_sought : Sound spawn_sought
unfolding spawn_sought
sound_spawn_sought =
    joined (of_kind 1 4) _ (sound_of_kind 1 4 (lit< tt) (lit< tt))
    (joined (own 1) _ (sound_own 1 (lit< tt))
    (computes (lit≤ tt) (lit≤ tt), joined in_room _ sound_in_room (computes (lit≤ tt) (lit≤ tt), tt)))

sound_look : (sought : List Op) → Sound sought → Sound (look sought)
unfolding look
sound_look sought p =
    joined (is_seen 1) _ (sound_is_seen 1 (lit< tt))
    (joined sought _ p (
      compares (lit≤ tt) (lit≤ tt),
      (
        computes (lit≤ tt) (lit≤ tt),
        sound_when (to_next 1) (sound_to_next 1 (lit< tt)),
      ),
    ))

sound_seek : (sought : List Op) → Sound sought → Sound (seek sought)
unfolding seek
sound_seek sought p = (small 0 (lit< tt), (lit< tt, sound_again (look sought) (sound_look sought p)))

sound_both_ids : Sound both_ids
unfolding both_ids
sound_both_ids =
    joined (field 0 0) (field 1 0) (sound_field 0 0 (lit< tt) (lit< tt)) (sound_field 1 0 (lit< tt) (lit< tt))

sound_on_code : (number : ℤ) (code : List Op) → IsSigned 32 number → Sound code → Sound (on_code number code)
unfolding on_code
sound_on_code number code p q = (lit< tt, (p, (compares (lit≤ tt) (lit≤ tt), sound_when code q)))

sound_sign : (number : ℕ) → number < 2 ^ 31 → Sound (sign number)
unfolding sign
sound_sign number p =
    joined (both_fields number) _ (sound_both_fields number p) (
      compares (lit≤ tt) (lit≤ tt),
      joined (both_fields number) _ (sound_both_fields number p)
          (compares (lit≤ tt) (lit≤ tt), (computes (lit≤ tt) (lit≤ tt), tt)),
    )

sound_direction : Sound direction
unfolding direction
sound_direction = (
  long directions (lit< tt),
  joined (sign 3) _ (sound_sign 3 (lit< tt))
      (joined (sign 4) _ (sound_sign 4 (lit< tt)) (
        small 3 (lit< tt),
        (
          computes (lit≤ tt) (lit≤ tt),
          (
            computes (lit≤ tt) (lit≤ tt),
            (
              small 4 (lit< tt),
              (
                computes (lit≤ tt) (lit≤ tt),
                (
                  small 4 (lit< tt),
                  (
                    computes (lit≤ tt) (lit≤ tt),
                    (
                      extends (lit≤ tt) (lit≤ tt),
                      (
                        computes (lit≤ tt) (lit≤ tt),
                        (
                          wraps refl,
                          (small 15 (lit< tt), (computes (lit≤ tt) (lit≤ tt), tt)),
                        ),
                      ),
                    ),
                  ),
                ),
              ),
            ),
          ),
        ),
      )),
)

sound_steps : Sound steps
unfolding steps
sound_steps =
    joined (field 0 0) _ (sound_field 0 0 (lit< tt) (lit< tt))
    (joined direction _ sound_direction (lit< tt, (tt, tt)))

sound_drops : Sound drops
unfolding drops
sound_drops =
    joined (field 0 0) _ (sound_field 0 0 (lit< tt) (lit< tt)) (small 0 (lit< tt), (lit< tt, (tt, tt)))

sound_harvests : Sound harvests
unfolding harvests
sound_harvests =
    joined (seek source_sought) _ (sound_seek source_sought sound_source_sought)
    (joined both_ids _ sound_both_ids (lit< tt, (lit< tt, tt)))

full : IsSigned 32 (negsuc 7)
full = (omega (arith, ints), omega (arith, ints))

far : IsSigned 32 (negsuc 8)
far = (omega (arith, ints), omega (arith, ints))

sound_delivers : Sound delivers
unfolding delivers
sound_delivers =
    joined (seek spawn_sought) _ (sound_seek spawn_sought sound_spawn_sought)
    (joined both_ids _ sound_both_ids
    (small 0 (lit< tt), (lit< tt, (lit< tt, sound_on_code (negsuc 7) drops full sound_drops))))

sound_has_room : Sound has_room
unfolding has_room
sound_has_room =
    joined (field 0 8) _ (sound_field 0 8 (lit< tt) (lit< tt))
    (joined (field 0 9) _ (sound_field 0 9 (lit< tt) (lit< tt)) (compares (lit≤ tt) (lit≤ tt), tt))

sound_turn : Sound turn
unfolding turn
sound_turn =
    joined has_room _ sound_has_room
    (joined (either harvests delivers) _ (sound_either harvests delivers sound_harvests sound_delivers)
    (sound_on_code (negsuc 8) steps far sound_steps))

sound_own_creep : Sound own_creep
unfolding own_creep
sound_own_creep =
    joined (of_kind 0 3) _ (sound_of_kind 0 3 (lit< tt) (lit< tt))
    (joined (own 0) _ (sound_own 0 (lit< tt)) (computes (lit≤ tt) (lit≤ tt), tt))

sound_visit : Sound visit
unfolding visit
sound_visit =
    joined own_creep _ sound_own_creep
    (joined (when turn) (to_next 0) (sound_when turn sound_turn) (sound_to_next 0 (lit< tt)))

sound_turns : Sound turns
unfolding turns
sound_turns =
    sound_again (is_seen 0 ++ when visit)
    (joined (is_seen 0) (when visit) (sound_is_seen 0 (lit< tt)) (sound_when visit sound_visit))

-- ---- names

abbrev Low : List ℕ → Type 0
Low [] = Unit {0}
Low (byte ∷ bytes) = (byte < 128) × Low bytes

low_at : (bytes : List ℕ) → Low bytes → (i : ℕ) → slice_index bytes i < 128
low_at [] h i = lit< tt
low_at (byte ∷ bytes) h zero = h.0
low_at (byte ∷ bytes) h (suc i) = low_at bytes h.1 i

text : (bytes : List ℕ) → Low bytes → IsUtf8 bytes
text bytes h = IsUtf8-from_ascii bytes (low_at bytes h)

abbrev IsCall : Import → Type 0
IsCall entry = IsUtf8 entry.module × IsUtf8 entry.name × IsImported entry.desc

screeps : IsUtf8 (codes "screeps")
screeps = text (codes "screeps") (lit< tt, (lit< tt, (lit< tt, (lit< tt, (lit< tt, (lit< tt, (lit< tt, tt)))))))

calls : All IsCall host_calls
unfolding host_calls
calls =
    All-from_recursion IsCall host_calls (
      (screeps, text (codes "count") (lit< tt, (lit< tt, (lit< tt, (lit< tt, (lit< tt, tt))))), lit< tt),
      (
        (screeps, text (codes "me") (lit< tt, (lit< tt, tt)), lit< tt),
        (
          (screeps, text (codes "get") (lit< tt, (lit< tt, (lit< tt, tt))), lit< tt),
          (
            (screeps, text (codes "harvest") (lit< tt, (lit< tt, (lit< tt, (lit< tt, (lit< tt, (lit< tt, (lit< tt, tt))))))), lit< tt),
            (
              (screeps, text (codes "transfer") (lit< tt, (lit< tt, (lit< tt, (lit< tt, (lit< tt, (lit< tt, (lit< tt, (lit< tt, tt)))))))), lit< tt),
              (
                (screeps, text (codes "drop") (lit< tt, (lit< tt, (lit< tt, (lit< tt, tt)))), lit< tt),
                (
                  (screeps, text (codes "move") (lit< tt, (lit< tt, (lit< tt, (lit< tt, tt)))), lit< tt),
                  tt,
                ),
              ),
            ),
          ),
        ),
      ),
    )

-- ---- the whole

is_small : weight player_module < 2 ^ 32
unfolding player_module host_types host_calls loop_codes turns visit own_creep turn has_room delivers harvests drops steps direction sign on_code both_ids seek look spawn_sought source_sought again either when is_seen to_next in_room both_fields own of_kind field
is_small = lit< tt

pub encodable : IsEncodable player_module
unfolding player_module loop_codes
encodable = record {
  functions = refl;
  imports = calls;
  funcs = All-from_recursion IsU32 (5 ∷ []) (lit< tt, tt);
  tables = λ k d h. absurd (omega arith);
  memories = λ k d h. absurd (omega arith);
  globals = λ k d h. absurd (omega arith);
  exports = All-from_recursion (λ (entry : Export). IsUtf8 entry.name × IsExported entry.desc) loop_exports
      ((text (codes "loop") (lit< tt, (lit< tt, (lit< tt, (lit< tt, tt)))), lit< tt), tt);
  start = λ func e. cc;
  elements = λ k d h. absurd (omega arith);
  codes = All-from_recursion (λ (code : Function Ops). All (λ run. IsU32 run.count) code.0 × AreInstructions code.1)
      loop_codes ((All-from_recursion (λ (run : LocalRun). IsU32 run.count) (record { count = 3; value = I32 } ∷ []) (lit< tt, tt), sound_turns), tt);
  segments = λ k d h. absurd (omega arith);
  small = is_small;
}

pub module_spelled : IsSpelled Spells player_module
module_spelled = encodable_spelled player_module encodable
