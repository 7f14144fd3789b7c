-- The module of each player of a generated world. In each tick its creeps harvest, carry and fill the spawn.
use Rattle.std.specs.Prelude.{ℕ, ℤ, pos, negsuc, List, [], ◌∷◌, ◌++◌, Option, None, Some, codes}
use Rattle.wasm_values.specs.Syntax.{Op, Ops, no_ops, loop, if_else, br, call, drop_value, local_get}
use Rattle.wasm_values.specs.Syntax.{local_set, i32_const, i64_const, numeric}
use Rattle.wasm_values.specs.View.{ops_of}
use Rattle.wasm_module.specs.Entries.{Function}
use Rattle.wasm_module.specs.Sections.{Syntax}
use Rattle.wasm_values.specs.declared.types.ValType.{ValType}
use Rattle.wasm_values.specs.declared.types.ValType.TheVariants.{I32, I64}
use Rattle.wasm_values.specs.declared.types.FuncType.{FuncType}
use Rattle.wasm_values.specs.declared.imports.Import.{Import}
use Rattle.wasm_values.specs.declared.imports.ImportDesc.TheVariants as import
use Rattle.wasm_values.specs.declared.exports.Export.{Export}
use Rattle.wasm_values.specs.declared.exports.ExportDesc.TheVariants as export

-- ---- what it imports: seven host calls, numbered from 0 on

-- a host call of a name, by the number of its type
abbrev pub imported : List ℕ → ℕ → Import
imported name type = record { «module» = codes "screeps"; name = name; desc = import.Func type }

abbrev pub count : Op
count = call 0

abbrev pub me : Op
me = call 1

abbrev pub get : Op
get = call 2

abbrev pub harvest : Op
harvest = call 3

abbrev pub transfer : Op
transfer = call 4

abbrev pub drop : Op
drop = call 5

abbrev pub move : Op
move = call 6

-- a function's type
abbrev pub takes : List ValType → Option ValType → FuncType
takes params result = record { params = params; result = result }

unfoldable pub host_types : List FuncType
host_types =
    takes [] (Some I32)
    ∷ takes (I32 ∷ I32 ∷ []) (Some I64)
    ∷ takes (I64 ∷ I64 ∷ []) (Some I32)
    ∷ takes (I64 ∷ I64 ∷ I32 ∷ []) (Some I32)
    ∷ takes (I64 ∷ I32 ∷ []) (Some I32)
    ∷ takes [] None
    ∷ []

unfoldable pub host_calls : List Import
host_calls =
    imported (codes "count") 0
    ∷ imported (codes "me") 0
    ∷ imported (codes "get") 1
    ∷ imported (codes "harvest") 2
    ∷ imported (codes "transfer") 3
    ∷ imported (codes "drop") 4
    ∷ imported (codes "move") 4
    ∷ []

-- ---- operations, by their names in the text form

abbrev pub i32_eqz : Op
i32_eqz = numeric 0x45

abbrev pub i32_eq : Op
i32_eq = numeric 0x46

abbrev pub i32_lt_u : Op
i32_lt_u = numeric 0x49

abbrev pub i64_eq : Op
i64_eq = numeric 0x51

abbrev pub i64_lt_s : Op
i64_lt_s = numeric 0x53

abbrev pub i64_gt_s : Op
i64_gt_s = numeric 0x55

abbrev pub i32_add : Op
i32_add = numeric 0x6a

abbrev pub i32_sub : Op
i32_sub = numeric 0x6b

abbrev pub i32_mul : Op
i32_mul = numeric 0x6c

abbrev pub i32_and : Op
i32_and = numeric 0x71

abbrev pub i64_shr_u : Op
i64_shr_u = numeric 0x88

abbrev pub i32_wrap_i64 : Op
i32_wrap_i64 = numeric 0xa7

abbrev pub i64_extend_i32_u : Op
i64_extend_i32_u = numeric 0xad

-- code that runs where the test before it holds
unfoldable pub when : List Op → List Op
when code = if_else None (ops_of code) no_ops ∷ []

-- one code or the other, by the test before it
unfoldable pub either : List Op → List Op → List Op
either code other = if_else None (ops_of code) (ops_of other) ∷ []

-- code that may begin again
unfoldable pub again : List Op → List Op
again code = loop None (ops_of code) ∷ []

-- ---- objects, by the locals that keep their indices: 0 is the creep's, 1 its target's. Local 2 keeps a
-- code.

-- a field of an object
unfoldable pub field : ℕ → ℕ → List Op
field object number = local_get object ∷ i32_const (pos number) ∷ get ∷ []

-- It is of this kind.
unfoldable pub of_kind : ℕ → ℕ → List Op
of_kind object kind = field object 1 ++ (i64_const (pos kind) ∷ i64_eq ∷ [])

-- It belongs to the player.
unfoldable pub own : ℕ → List Op
own object = field object 5 ++ (me ∷ i64_extend_i32_u ∷ i64_eq ∷ [])

-- a field of the target, and the same of the creep
unfoldable pub both_fields : ℕ → List Op
both_fields number = field 1 number ++ field 0 number

-- The target is in the creep's room.
unfoldable pub in_room : List Op
in_room = both_fields 2 ++ (i64_eq ∷ [])

-- on to the next object, in a loop's innermost test
unfoldable pub to_next : ℕ → List Op
to_next object = local_get object ∷ i32_const (pos 1) ∷ i32_add ∷ local_set object ∷ br 1 ∷ []

-- There is such an object.
unfoldable pub is_seen : ℕ → List Op
is_seen object = local_get object ∷ count ∷ i32_lt_u ∷ []

-- ---- the search of a target. Where none is found its index is the count, and the host refuses what is
-- wanted.

-- The target is a source of the creep's room.
unfoldable pub source_sought : List Op
source_sought = of_kind 1 1 ++ (in_room ++ (i32_and ∷ []))

-- The target is an own spawn of the creep's room.
unfoldable pub spawn_sought : List Op
spawn_sought = of_kind 1 4 ++ (own 1 ++ (i32_and ∷ (in_room ++ (i32_and ∷ []))))

-- One object is looked at: if it is not what is sought, the next one is.
unfoldable pub look : List Op → List Op
look sought = is_seen 1 ++ (sought ++ (i32_eqz ∷ i32_and ∷ when (to_next 1)))

-- the first target that is what is sought
unfoldable pub seek : List Op → List Op
seek sought = i32_const (pos 0) ∷ local_set 1 ∷ again (look sought)

-- ---- what a creep does

-- the ids of the creep and its target
unfoldable pub both_ids : List Op
both_ids = field 0 0 ++ field 1 0

-- code that runs where the last call of a creep gave this code
unfoldable pub on_code : ℤ → List Op → List Op
on_code number code = local_get 2 ∷ i32_const number ∷ i32_eq ∷ when code

-- the sign of what the target's coordinate is more than the creep's; x is field 3, y is field 4
unfoldable pub sign : ℕ → List Op
sign number = both_fields number ++ (i64_gt_s ∷ (both_fields number ++ (i64_lt_s ∷ i32_sub ∷ [])))

-- the directions by the number 4 + sign of x + 3 * sign of y, four bits each, the first lowest: 8 1 2 7 0 3 6
-- 5 4. 0 is none
abbrev pub directions : ℕ
directions = 0x456307218

unfoldable pub direction : List Op
direction =
    i64_const (pos directions) ∷ (sign 3 ++ (sign 4
    ++ (i32_const (pos 3) ∷ i32_mul ∷ i32_add ∷ i32_const (pos 4) ∷ i32_add ∷ i32_const (pos 4) ∷ i32_mul
    ∷ i64_extend_i32_u ∷ i64_shr_u ∷ i32_wrap_i64 ∷ i32_const (pos 15) ∷ i32_and ∷ [])))

-- It steps towards its target.
unfoldable pub steps : List Op
steps = field 0 0 ++ (direction ++ (move ∷ drop_value ∷ []))

-- It drops all that it carries.
unfoldable pub drops : List Op
drops = field 0 0 ++ (i32_const (pos 0) ∷ drop ∷ drop_value ∷ [])

-- It harvests the first source of its room.
unfoldable pub harvests : List Op
harvests = seek source_sought ++ (both_ids ++ (harvest ∷ local_set 2 ∷ []))

-- It hands all that it carries to the first own spawn of its room, and where that is full drops it.
unfoldable pub delivers : List Op
delivers =
    seek spawn_sought
    ++ (both_ids ++ (i32_const (pos 0) ∷ transfer ∷ local_set 2 ∷ on_code (negsuc 7) drops))

-- It has free room: its energy, field 8, is less than its capacity, field 9.
unfoldable pub has_room : List Op
has_room = field 0 8 ++ (field 0 9 ++ (i64_lt_s ∷ []))

-- With free room it harvests, and else it delivers; where the target is not in range it steps.
unfoldable pub turn : List Op
turn = has_room ++ (either harvests delivers ++ on_code (negsuc 8) steps)

-- ---- the function and the module

-- It is an own creep.
unfoldable pub own_creep : List Op
own_creep = of_kind 0 3 ++ (own 0 ++ (i32_and ∷ []))

-- One object is looked at: if it is an own creep, it has its turn.
unfoldable pub visit : List Op
visit = own_creep ++ (when turn ++ to_next 0)

-- all objects, in rising index
unfoldable pub turns : List Op
turns = again (is_seen 0 ++ when visit)

-- the function `loop`, of three locals, and its export
unfoldable pub loop_codes : List (Function Ops)
loop_codes = (record { count = 3; value = I32 } ∷ [], ops_of turns) ∷ []

abbrev pub loop_exports : List Export
loop_exports = record { name = codes "loop"; desc = export.Func 7 } ∷ []

unfoldable pub player_module : Syntax Ops
player_module = record {
  types = host_types;
  imports = host_calls;
  funcs = 5 ∷ [];
  tables = [];
  memories = [];
  globals = [];
  exports = loop_exports;
  start = None;
  elements = [];
  codes = loop_codes;
  segments = [];
}
