-- The code that the functions put together is that of the definitions.
use Rattle.std.proofs.Common.{◌≡◌, ℕ, ℤ, pos, negsuc, List, [], ◌∷◌, ◌++◌, None, refl, ap, ap₂, ◌∙◌, append_assoc}
use Rattle.std.proofs.lemmas.List.{map-append}
use Rattle.wasm_values.specs.Syntax.{Op, drop_value, if_else, i32_const, i64_const, local_set, loop}
use Rattle.wasm_values.specs.View.{instr_view, instrs_view, items_view, ops_of}
use Rattle.wasm_values.specs.declared.instr.Instr.{Instr}
use Rattle.wasm_values.specs.declared.instr.Instr.TheVariants as instr
use Rattle.wasm_values.specs.declared.instr.Instrs.{Instrs}
use Rattle.wasm_values.proofs.Views.{view_br, view_call, view_drop_value, view_i32_const, view_i64_const, view_if, view_instrs, view_local_get, view_local_set, view_loop, view_numeric}
use Rattle.world_gen.specs.PlayerModule.{again, both_fields, both_ids, delivers, direction, directions, drops, either, field, harvest, harvests, has_room, i32_add, i32_and, i32_eqz, i32_mul, i32_sub, i32_wrap_i64, i64_extend_i32_u, i64_gt_s, i64_lt_s, i64_shr_u, in_room, is_seen, look, move, of_kind, on_code, own, own_creep, seek, sign, source_sought, spawn_sought, steps, to_next, transfer, turn, turns, visit, when}
use Rattle.world_gen.specs.inner.Lines.{lines}

pub lines_joined : (xs ys : List Instr) → lines (xs ++ ys) ≡ lines xs ++ lines ys
unfolding lines
lines_joined xs ys = map-append instr_view xs ys

lines_none : lines [] ≡ []
unfolding lines
lines_none = refl

line : (one : Instr) (more : List Instr) {op : Op} {ops : List Op}
    → instr_view one ≡ op → lines more ≡ ops → lines (one ∷ more) ≡ op ∷ ops
unfolding lines
line one more e f = ap₂ (λ a b. a ∷ b) e f

-- ---- blocks

pub body_lines : (code : List Instr) (body : Instrs)
    → body.list ≡ code → instrs_view body ≡ ops_of (lines code)
unfolding lines
body_lines code body e = view_instrs body ∙ ap items_view e

pub when_lines : (code : List Instr) (body none : Instrs)
    → instrs_view body ≡ ops_of (lines code) → none.list ≡ []
    → lines (instr.If None body none ∷ []) ≡ when (lines code)
unfolding when
when_lines code body none e empty =
    line _ _ (view_if None body none ∙ ap₂ (λ a b. if_else None a b) e (view_instrs none ∙ ap items_view empty)) lines_none

pub either_lines : (code other : List Instr) (first second : Instrs)
    → instrs_view first ≡ ops_of (lines code) → instrs_view second ≡ ops_of (lines other)
    → lines (instr.If None first second ∷ []) ≡ either (lines code) (lines other)
unfolding either
either_lines code other first second e f =
    line _ _ (view_if None first second ∙ ap₂ (λ a b. if_else None a b) e f) lines_none

pub again_lines : (code : List Instr) (body : Instrs)
    → instrs_view body ≡ ops_of (lines code) → lines (instr.Loop None body ∷ []) ≡ again (lines code)
unfolding again
again_lines code body e = line _ _ (view_loop None body ∙ ap (λ a. loop None a) e) lines_none

-- ---- the parts, one by one

pub field_lines : (object number : ℕ) → lines (instr.LocalGet object ∷ instr.I32Const (pos number) ∷ instr.Call 2 ∷ []) ≡ field object number
unfolding field
field_lines object number =
    line _ _ (view_local_get object) (line _ _ (view_i32_const (pos number)) (line _ _ (view_call 2) lines_none))

pub of_kind_lines : (object kind : ℕ) → field object 1 ++ lines (instr.I64Const (pos kind) ∷ instr.Numeric 0x51 ∷ []) ≡ of_kind object kind
unfolding of_kind
of_kind_lines object kind =
    ap (λ (v : List Op). field object 1 ++ v) (line _ _ (view_i64_const (pos kind)) (line _ _ (view_numeric 0x51) lines_none))

pub own_lines : (object : ℕ) → field object 5 ++ lines (instr.Call 1 ∷ instr.Numeric 0xad ∷ instr.Numeric 0x51 ∷ []) ≡ own object
unfolding own
own_lines object =
    ap (λ (v : List Op). field object 5 ++ v) (line _ _ (view_call 1) (line _ _ (view_numeric 0xad) (line _ _ (view_numeric 0x51) lines_none)))

pub both_fields_lines : (number : ℕ) → field 1 number ++ field 0 number ≡ both_fields number
unfolding both_fields
both_fields_lines number =
    refl

pub in_room_lines : both_fields 2 ++ lines (instr.Numeric 0x51 ∷ []) ≡ in_room
unfolding in_room
in_room_lines =
    ap (λ (v : List Op). both_fields 2 ++ v) (line _ _ (view_numeric 0x51) lines_none)

pub to_next_lines : (object : ℕ) → lines (instr.LocalGet object ∷ instr.I32Const (pos 1) ∷ instr.Numeric 0x6a ∷ instr.LocalSet object ∷ instr.Br 1 ∷ []) ≡ to_next object
unfolding to_next
to_next_lines object =
    line _ _ (view_local_get object) (line _ _ (view_i32_const (pos 1)) (line _ _ (view_numeric 0x6a) (line _ _ (view_local_set object) (line _ _ (view_br 1) lines_none))))

pub is_seen_lines : (object : ℕ) → lines (instr.LocalGet object ∷ instr.Call 0 ∷ instr.Numeric 0x49 ∷ []) ≡ is_seen object
unfolding is_seen
is_seen_lines object =
    line _ _ (view_local_get object) (line _ _ (view_call 0) (line _ _ (view_numeric 0x49) lines_none))

pub source_sought_lines : (of_kind 1 1 ++ in_room) ++ lines (instr.Numeric 0x71 ∷ []) ≡ source_sought
unfolding source_sought
source_sought_lines =
    ap (λ (v : List Op). (of_kind 1 1 ++ in_room) ++ v) (line _ _ (view_numeric 0x71) lines_none)
    ∙ append_assoc (of_kind 1 1) in_room (i32_and ∷ [])

pub spawn_sought_lines : (((of_kind 1 4 ++ own 1) ++ lines (instr.Numeric 0x71 ∷ [])) ++ in_room) ++ lines (instr.Numeric 0x71 ∷ []) ≡ spawn_sought
unfolding spawn_sought
spawn_sought_lines =
    ap (λ (v : List Op). (((of_kind 1 4 ++ own 1) ++ v) ++ in_room) ++ lines (instr.Numeric 0x71 ∷ [])) (line _ _ (view_numeric 0x71) lines_none)
    ∙ ap (λ (v : List Op). (((of_kind 1 4 ++ own 1) ++ (i32_and ∷ [])) ++ in_room) ++ v) (line _ _ (view_numeric 0x71) lines_none)
    ∙ append_assoc ((of_kind 1 4 ++ own 1) ++ (i32_and ∷ [])) in_room (i32_and ∷ [])
    ∙ append_assoc (of_kind 1 4 ++ own 1) (i32_and ∷ []) (in_room ++ ((i32_and ∷ [])))
    ∙ append_assoc (of_kind 1 4) (own 1) ((i32_and ∷ []) ++ (in_room ++ ((i32_and ∷ []))))

pub look_lines : (sought : List Op) → ((is_seen 1 ++ sought) ++ lines (instr.Numeric 0x45 ∷ instr.Numeric 0x71 ∷ [])) ++ when (to_next 1) ≡ look sought
unfolding look
look_lines sought =
    ap (λ (v : List Op). ((is_seen 1 ++ sought) ++ v) ++ when (to_next 1)) (line _ _ (view_numeric 0x45) (line _ _ (view_numeric 0x71) lines_none))
    ∙ append_assoc (is_seen 1 ++ sought) (i32_eqz ∷ i32_and ∷ []) (when (to_next 1))
    ∙ append_assoc (is_seen 1) sought ((i32_eqz ∷ i32_and ∷ []) ++ (when (to_next 1)))

pub seek_lines : (sought : List Op) → lines (instr.I32Const (pos 0) ∷ instr.LocalSet 1 ∷ []) ++ again (look sought) ≡ seek sought
unfolding seek
seek_lines sought =
    ap (λ (v : List Op). v ++ again (look sought)) (line _ _ (view_i32_const (pos 0)) (line _ _ (view_local_set 1) lines_none))

pub both_ids_lines : field 0 0 ++ field 1 0 ≡ both_ids
unfolding both_ids
both_ids_lines =
    refl

pub on_code_lines : (number : ℤ) (code : List Op) → lines (instr.LocalGet 2 ∷ instr.I32Const number ∷ instr.Numeric 0x46 ∷ []) ++ when code ≡ on_code number code
unfolding on_code
on_code_lines number code =
    ap (λ (v : List Op). v ++ when code) (line _ _ (view_local_get 2) (line _ _ (view_i32_const number) (line _ _ (view_numeric 0x46) lines_none)))

pub sign_lines : (number : ℕ) → ((both_fields number ++ lines (instr.Numeric 0x55 ∷ [])) ++ both_fields number) ++ lines (instr.Numeric 0x53 ∷ instr.Numeric 0x6b ∷ []) ≡ sign number
unfolding sign
sign_lines number =
    ap (λ (v : List Op). ((both_fields number ++ v) ++ both_fields number) ++ lines (instr.Numeric 0x53 ∷ instr.Numeric 0x6b ∷ [])) (line _ _ (view_numeric 0x55) lines_none)
    ∙ ap (λ (v : List Op). ((both_fields number ++ (i64_gt_s ∷ [])) ++ both_fields number) ++ v) (line _ _ (view_numeric 0x53) (line _ _ (view_numeric 0x6b) lines_none))
    ∙ append_assoc (both_fields number ++ (i64_gt_s ∷ [])) (both_fields number) (i64_lt_s ∷ i32_sub ∷ [])
    ∙ append_assoc (both_fields number) (i64_gt_s ∷ []) (both_fields number ++ ((i64_lt_s ∷ i32_sub ∷ [])))

pub direction_lines : ((lines (instr.I64Const (pos directions) ∷ []) ++ sign 3) ++ sign 4) ++ lines (instr.I32Const (pos 3) ∷ instr.Numeric 0x6c ∷ instr.Numeric 0x6a ∷ instr.I32Const (pos 4) ∷ instr.Numeric 0x6a ∷ instr.I32Const (pos 4) ∷ instr.Numeric 0x6c ∷ instr.Numeric 0xad ∷ instr.Numeric 0x88 ∷ instr.Numeric 0xa7 ∷ instr.I32Const (pos 15) ∷ instr.Numeric 0x71 ∷ []) ≡ direction
unfolding direction
direction_lines =
    ap (λ (v : List Op). ((v ++ sign 3) ++ sign 4) ++ lines (instr.I32Const (pos 3) ∷ instr.Numeric 0x6c ∷ instr.Numeric 0x6a ∷ instr.I32Const (pos 4) ∷ instr.Numeric 0x6a ∷ instr.I32Const (pos 4) ∷ instr.Numeric 0x6c ∷ instr.Numeric 0xad ∷ instr.Numeric 0x88 ∷ instr.Numeric 0xa7 ∷ instr.I32Const (pos 15) ∷ instr.Numeric 0x71 ∷ [])) (line _ _ (view_i64_const (pos directions)) lines_none)
    ∙ ap (λ (v : List Op). (((i64_const (pos directions) ∷ []) ++ sign 3) ++ sign 4) ++ v) (line _ _ (view_i32_const (pos 3)) (line _ _ (view_numeric 0x6c) (line _ _ (view_numeric 0x6a) (line _ _ (view_i32_const (pos 4)) (line _ _ (view_numeric 0x6a) (line _ _ (view_i32_const (pos 4)) (line _ _ (view_numeric 0x6c) (line _ _ (view_numeric 0xad) (line _ _ (view_numeric 0x88) (line _ _ (view_numeric 0xa7) (line _ _ (view_i32_const (pos 15)) (line _ _ (view_numeric 0x71) lines_none))))))))))))
    ∙ append_assoc ((i64_const (pos directions) ∷ []) ++ sign 3) (sign 4) (i32_const (pos 3) ∷ i32_mul ∷ i32_add ∷ i32_const (pos 4) ∷ i32_add ∷ i32_const (pos 4) ∷ i32_mul ∷ i64_extend_i32_u ∷ i64_shr_u ∷ i32_wrap_i64 ∷ i32_const (pos 15) ∷ i32_and ∷ [])
    ∙ append_assoc (i64_const (pos directions) ∷ []) (sign 3) (sign 4 ++ ((i32_const (pos 3) ∷ i32_mul ∷ i32_add ∷ i32_const (pos 4) ∷ i32_add ∷ i32_const (pos 4) ∷ i32_mul ∷ i64_extend_i32_u ∷ i64_shr_u ∷ i32_wrap_i64 ∷ i32_const (pos 15) ∷ i32_and ∷ [])))

pub steps_lines : (field 0 0 ++ direction) ++ lines (instr.Call 6 ∷ instr.Drop ∷ []) ≡ steps
unfolding steps
steps_lines =
    ap (λ (v : List Op). (field 0 0 ++ direction) ++ v) (line _ _ (view_call 6) (line _ _ (view_drop_value) lines_none))
    ∙ append_assoc (field 0 0) direction (move ∷ drop_value ∷ [])

pub drops_lines : field 0 0 ++ lines (instr.I32Const (pos 0) ∷ instr.Call 5 ∷ instr.Drop ∷ []) ≡ drops
unfolding drops
drops_lines =
    ap (λ (v : List Op). field 0 0 ++ v) (line _ _ (view_i32_const (pos 0)) (line _ _ (view_call 5) (line _ _ (view_drop_value) lines_none)))

pub harvests_lines : (seek source_sought ++ both_ids) ++ lines (instr.Call 3 ∷ instr.LocalSet 2 ∷ []) ≡ harvests
unfolding harvests
harvests_lines =
    ap (λ (v : List Op). (seek source_sought ++ both_ids) ++ v) (line _ _ (view_call 3) (line _ _ (view_local_set 2) lines_none))
    ∙ append_assoc (seek source_sought) both_ids (harvest ∷ local_set 2 ∷ [])

pub delivers_lines : ((seek spawn_sought ++ both_ids) ++ lines (instr.I32Const (pos 0) ∷ instr.Call 4 ∷ instr.LocalSet 2 ∷ [])) ++ on_code (negsuc 7) drops ≡ delivers
unfolding delivers
delivers_lines =
    ap (λ (v : List Op). ((seek spawn_sought ++ both_ids) ++ v) ++ on_code (negsuc 7) drops) (line _ _ (view_i32_const (pos 0)) (line _ _ (view_call 4) (line _ _ (view_local_set 2) lines_none)))
    ∙ append_assoc (seek spawn_sought ++ both_ids) (i32_const (pos 0) ∷ transfer ∷ local_set 2 ∷ []) (on_code (negsuc 7) drops)
    ∙ append_assoc (seek spawn_sought) both_ids ((i32_const (pos 0) ∷ transfer ∷ local_set 2 ∷ []) ++ (on_code (negsuc 7) drops))

pub has_room_lines : (field 0 8 ++ field 0 9) ++ lines (instr.Numeric 0x53 ∷ []) ≡ has_room
unfolding has_room
has_room_lines =
    ap (λ (v : List Op). (field 0 8 ++ field 0 9) ++ v) (line _ _ (view_numeric 0x53) lines_none)
    ∙ append_assoc (field 0 8) (field 0 9) (i64_lt_s ∷ [])

pub turn_lines : (has_room ++ either harvests delivers) ++ on_code (negsuc 8) steps ≡ turn
unfolding turn
turn_lines =
    append_assoc has_room (either harvests delivers) (on_code (negsuc 8) steps)

pub own_creep_lines : (of_kind 0 3 ++ own 0) ++ lines (instr.Numeric 0x71 ∷ []) ≡ own_creep
unfolding own_creep
own_creep_lines =
    ap (λ (v : List Op). (of_kind 0 3 ++ own 0) ++ v) (line _ _ (view_numeric 0x71) lines_none)
    ∙ append_assoc (of_kind 0 3) (own 0) (i32_and ∷ [])

pub visit_lines : (own_creep ++ when turn) ++ to_next 0 ≡ visit
unfolding visit
visit_lines =
    append_assoc own_creep (when turn) (to_next 0)

pub turns_lines : again (is_seen 0 ++ when visit) ≡ turns
unfolding turns
turns_lines = refl
