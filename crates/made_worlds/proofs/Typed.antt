-- The code of the players' module has the types of a function that takes and gives nothing.
use Rattle.std.proofs.Common.{◌≡◌, ℕ, ◌<◌, ℤ, negsuc, List, [], ◌∷◌, ◌++◌, Option, Some, None, refl, lit<}
use Rattle.std.specs.Prelude.{slice_get}
use Rattle.wasm_values.specs.Syntax.{Op, Ops, next, call, drop_value, local_get, local_set, i32_const, i64_const, numeric}
use Rattle.wasm_values.specs.View.{ops_of}
use Rattle.wasm_values.specs.declared.types.ValType.{ValType}
use Rattle.wasm_values.specs.declared.types.ValType.TheVariants.{I32, I64}
use Rattle.wasm_typing.specs.Context.{Context}
use Rattle.wasm_values.specs.Opcodes.{meaning, meaning_in, opcodes}
use Rattle.wasm_typing.specs.Operations.{of_one, of_two, signature_of}
use Rattle.wasm_typing.specs.Typing.{HasType, Typed, br_typed, call_typed, drop_typed, i32_const_typed, i64_const_typed, if_typed, local_get_typed, local_set_typed, loop_typed, next_typed, none_typed, numeric_typed}
use Rattle.world_gen.specs.PlayerModule.{again, both_fields, both_ids, delivers, direction, drops, either, field, harvests, has_room, in_room, is_seen, look, of_kind, on_code, own, own_creep, seek, sign, source_sought, spawn_sought, steps, takes, to_next, turn, turns, visit, when}

-- ---- operations on numbers

to_i32 : (signature_of 0x45 ≡ Some (of_one I32 I32)) × (signature_of 0xa7 ≡ Some (of_one I64 I32))
unfolding signature_of meaning meaning_in opcodes
to_i32 = (refl, refl)

to_i64 : signature_of 0xad ≡ Some (of_one I32 I64)
unfolding signature_of meaning meaning_in opcodes
to_i64 = refl

both_i64 : signature_of 0x88 ≡ Some (of_two I64 I64)
unfolding signature_of meaning meaning_in opcodes
both_i64 = refl

pub record AreBinary : Type 0 where
  pub eq : signature_of 0x46 ≡ Some (of_two I32 I32)
  pub less : signature_of 0x49 ≡ Some (of_two I32 I32)
  pub add : signature_of 0x6a ≡ Some (of_two I32 I32)
  pub sub : signature_of 0x6b ≡ Some (of_two I32 I32)
  pub mul : signature_of 0x6c ≡ Some (of_two I32 I32)
  pub and : signature_of 0x71 ≡ Some (of_two I32 I32)
  pub same : signature_of 0x51 ≡ Some (of_two I64 I32)
  pub below : signature_of 0x53 ≡ Some (of_two I64 I32)
  pub above : signature_of 0x55 ≡ Some (of_two I64 I32)

are_binary : AreBinary
unfolding signature_of meaning meaning_in opcodes
are_binary =
    record { eq = refl; less = refl; add = refl; sub = refl; mul = refl; and = refl; same = refl; below = refl; above = refl }

-- ---- the function around the code

-- The function's three locals are i32s, and the host calls have their types.
pub record IsPlayerContext (cx : Context) : Type 0 where
  pub locals : (local : ℕ) → local < 3 → slice_get cx.locals local ≡ Some I32
  pub count : HasType cx 0 (takes [] (Some I32))
  pub me : HasType cx 1 (takes [] (Some I32))
  pub get : HasType cx 2 (takes (I32 ∷ I32 ∷ []) (Some I64))
  pub harvest : HasType cx 3 (takes (I64 ∷ I64 ∷ []) (Some I32))
  pub transfer : HasType cx 4 (takes (I64 ∷ I64 ∷ I32 ∷ []) (Some I32))
  pub drop : HasType cx 5 (takes (I64 ∷ I32 ∷ []) (Some I32))
  pub move : HasType cx 6 (takes (I64 ∷ I32 ∷ []) (Some I32))

abbrev Labels : Type 0
Labels = List (Option ValType)

module _ (cx : Context) (is : IsPlayerContext cx) where
  -- The code leads from one stack to another.
  abbrev Leads : Labels → List Op → List ValType → List ValType → Type 0
  Leads labels code from to = Typed cx labels (ops_of code) from to

  pub joined : (labels : Labels) (code other : List Op) {from mid to : List ValType}
      → Leads labels code from mid → Leads labels other mid to → Leads labels (code ++ other) from to
  joined labels [] other none_typed q = q
  joined labels (op ∷ code) other (next_typed below p rest) q =
      next_typed below p (joined labels code other rest q)

  -- ---- one instruction more

  with_local : {labels : Labels} {rest : Ops} {below to : List ValType} (local : ℕ)
      → local < 3 → Typed cx labels rest (I32 ∷ below) to → Typed cx labels (next (local_get local) rest) below to
  with_local {below = below} local less q = next_typed below (local_get_typed (is.locals local less)) q

  local_kept : {labels : Labels} {rest : Ops} {below to : List ValType} (local : ℕ)
      → local < 3 → Typed cx labels rest below to → Typed cx labels (next (local_set local) rest) (I32 ∷ below) to
  local_kept {below = below} local less q = next_typed below (local_set_typed (is.locals local less)) q

  with_i32 : {labels : Labels} {rest : Ops} {below to : List ValType} {number : ℤ}
      → Typed cx labels rest (I32 ∷ below) to → Typed cx labels (next (i32_const number) rest) below to
  with_i32 {below = below} q = next_typed below i32_const_typed q

  with_i64 : {labels : Labels} {rest : Ops} {below to : List ValType} {number : ℤ}
      → Typed cx labels rest (I64 ∷ below) to → Typed cx labels (next (i64_const number) rest) below to
  with_i64 {below = below} q = next_typed below i64_const_typed q

  computed : {labels : Labels} {rest : Ops} {below to : List ValType} (op : ℕ) (from result : ValType)
      → signature_of op ≡ Some (of_two from result) → Typed cx labels rest (result ∷ below) to
      → Typed cx labels (next (numeric op) rest) (from ∷ from ∷ below) to
  computed {below = below} op from result known q =
      next_typed below (numeric_typed (of_two from result) known) q

  turned : {labels : Labels} {rest : Ops} {below to : List ValType} (op : ℕ) (from result : ValType)
      → signature_of op ≡ Some (of_one from result) → Typed cx labels rest (result ∷ below) to
      → Typed cx labels (next (numeric op) rest) (from ∷ below) to
  turned {below = below} op from result known q =
      next_typed below (numeric_typed (of_one from result) known) q

  counted : {labels : Labels} {rest : Ops} {below to : List ValType}
      → Typed cx labels rest (I32 ∷ below) to → Typed cx labels (next (call 0) rest) below to
  counted {below = below} q = next_typed below (call_typed (takes [] (Some I32)) is.count) q

  with_me : {labels : Labels} {rest : Ops} {below to : List ValType}
      → Typed cx labels rest (I32 ∷ below) to → Typed cx labels (next (call 1) rest) below to
  with_me {below = below} q = next_typed below (call_typed (takes [] (Some I32)) is.me) q

  got : {labels : Labels} {rest : Ops} {below to : List ValType}
      → Typed cx labels rest (I64 ∷ below) to → Typed cx labels (next (call 2) rest) (I32 ∷ I32 ∷ below) to
  got {below = below} q = next_typed below (call_typed (takes (I32 ∷ I32 ∷ []) (Some I64)) is.get) q

  harvested : {labels : Labels} {rest : Ops} {below to : List ValType}
      → Typed cx labels rest (I32 ∷ below) to → Typed cx labels (next (call 3) rest) (I64 ∷ I64 ∷ below) to
  harvested {below = below} q = next_typed below (call_typed (takes (I64 ∷ I64 ∷ []) (Some I32)) is.harvest) q

  transferred : {labels : Labels} {rest : Ops} {below to : List ValType}
      → Typed cx labels rest (I32 ∷ below) to → Typed cx labels (next (call 4) rest) (I32 ∷ I64 ∷ I64 ∷ below) to
  transferred {below = below} q =
      next_typed below (call_typed (takes (I64 ∷ I64 ∷ I32 ∷ []) (Some I32)) is.transfer) q

  dropped : {labels : Labels} {rest : Ops} {below to : List ValType}
      → Typed cx labels rest (I32 ∷ below) to → Typed cx labels (next (call 5) rest) (I32 ∷ I64 ∷ below) to
  dropped {below = below} q = next_typed below (call_typed (takes (I64 ∷ I32 ∷ []) (Some I32)) is.drop) q

  moved : {labels : Labels} {rest : Ops} {below to : List ValType}
      → Typed cx labels rest (I32 ∷ below) to → Typed cx labels (next (call 6) rest) (I32 ∷ I64 ∷ below) to
  moved {below = below} q = next_typed below (call_typed (takes (I64 ∷ I32 ∷ []) (Some I32)) is.move) q

  left : {labels : Labels} {rest : Ops} {below to : List ValType} {value : ValType}
      → Typed cx labels rest below to → Typed cx labels (next drop_value rest) (value ∷ below) to
  left {below = below} q = next_typed below drop_typed q

  -- ---- parts that look

  looked_field : (labels : Labels) (below : List ValType) (object number : ℕ)
      → object < 3 → Leads labels (field object number) below (I64 ∷ below)
  unfolding field
  looked_field labels below object number less = with_local object less (with_i32 (got none_typed))

  looked_kind : (labels : Labels) (below : List ValType) (object kind : ℕ)
      → object < 3 → Leads labels (of_kind object kind) below (I32 ∷ below)
  unfolding of_kind
  looked_kind labels below object kind less =
      joined labels (field object 1) _ (looked_field labels below object 1 less)
      (with_i64 (computed 0x51 I64 I32 are_binary.same none_typed))

  looked_owner : (labels : Labels) (below : List ValType) (object : ℕ)
      → object < 3 → Leads labels (own object) below (I32 ∷ below)
  unfolding own
  looked_owner labels below object less =
      joined labels (field object 5) _ (looked_field labels below object 5 less)
      (with_me (turned 0xad I32 I64 to_i64 (computed 0x51 I64 I32 are_binary.same none_typed)))

  looked_both : (labels : Labels) (below : List ValType) (number : ℕ)
      → Leads labels (both_fields number) below (I64 ∷ I64 ∷ below)
  unfolding both_fields
  looked_both labels below number =
      joined labels (field 1 number) (field 0 number) (looked_field labels below 1 number (lit< tt))
      (looked_field labels (I64 ∷ below) 0 number (lit< tt))

  looked_room : (labels : Labels) (below : List ValType) → Leads labels in_room below (I32 ∷ below)
  unfolding in_room
  looked_room labels below =
      joined labels (both_fields 2) _ (looked_both labels below 2) (computed 0x51 I64 I32 are_binary.same none_typed)

  looked_seen : (labels : Labels) (below : List ValType) (object : ℕ)
      → object < 3 → Leads labels (is_seen object) below (I32 ∷ below)
  unfolding is_seen
  looked_seen labels below object less =
      with_local object less (counted (computed 0x49 I32 I32 are_binary.less none_typed))

  gone_on : (labels : Labels) (object : ℕ) → object < 3 → slice_get labels 1 ≡ Some None
      → Leads labels (to_next object) [] []
  unfolding to_next
  gone_on labels object less outer =
      with_local object less (with_i32 (computed 0x6a I32 I32 are_binary.add
      (local_kept object less (next_typed {ins = []} {outs = []} [] (br_typed {result = None} [] outer) none_typed))))

  -- ---- blocks

  where_true : (labels : Labels) (below : List ValType) (code : List Op)
      → Leads (None ∷ labels) code [] [] → Leads labels (when code) (I32 ∷ below) below
  unfolding when
  where_true labels below code p =
      next_typed {ins = I32 ∷ []} {outs = []} below (if_typed {result = None} p none_typed) none_typed

  one_of_two : (labels : Labels) (below : List ValType) (code other : List Op)
      → Leads (None ∷ labels) code [] [] → Leads (None ∷ labels) other [] []
      → Leads labels (either code other) (I32 ∷ below) below
  unfolding either
  one_of_two labels below code other p q =
      next_typed {ins = I32 ∷ []} {outs = []} below (if_typed {result = None} p q) none_typed

  repeated : (labels : Labels) (below : List ValType) (code : List Op)
      → Leads (None ∷ labels) code [] [] → Leads labels (again code) below below
  unfolding again
  repeated labels below code p =
      next_typed {ins = []} {outs = []} below (loop_typed {result = None} p) none_typed

  -- ---- the search of a target

  sought_source : (labels : Labels) (below : List ValType) → Leads labels source_sought below (I32 ∷ below)
  unfolding source_sought
  sought_source labels below =
      joined labels (of_kind 1 1) _ (looked_kind labels below 1 1 (lit< tt))
      (joined labels in_room _ (looked_room labels (I32 ∷ below)) (computed 0x71 I32 I32 are_binary.and none_typed))

  sought_spawn : (labels : Labels) (below : List ValType) → Leads labels spawn_sought below (I32 ∷ below)
  unfolding spawn_sought
  sought_spawn labels below =
      joined labels (of_kind 1 4) _ (looked_kind labels below 1 4 (lit< tt))
      (joined labels (own 1) _ (looked_owner labels (I32 ∷ below) 1 (lit< tt))
      (computed 0x71 I32 I32 are_binary.and
      (joined labels in_room _ (looked_room labels (I32 ∷ below)) (computed 0x71 I32 I32 are_binary.and none_typed))))

  looked_once : (labels : Labels) (sought : List Op)
      → ((labels : Labels) (below : List ValType) → Leads labels sought below (I32 ∷ below))
      → slice_get labels 0 ≡ Some None → Leads labels (look sought) [] []
  unfolding look
  looked_once labels sought p outer =
      joined labels (is_seen 1) _ (looked_seen labels [] 1 (lit< tt))
      (joined labels sought _ (p labels (I32 ∷ []))
      (turned 0x45 I32 I32 to_i32.0 (computed 0x71 I32 I32 are_binary.and
      (where_true labels [] (to_next 1) (gone_on (None ∷ labels) 1 (lit< tt) outer)))))

  sought_first : (labels : Labels) (below : List ValType) (sought : List Op)
      → ((labels : Labels) (below : List ValType) → Leads labels sought below (I32 ∷ below))
      → Leads labels (seek sought) below below
  unfolding seek
  sought_first labels below sought p =
      with_i32 (local_kept 1 (lit< tt) (repeated labels below (look sought) (looked_once (None ∷ labels) sought p refl)))

  -- ---- what a creep does

  with_ids : (labels : Labels) (below : List ValType) → Leads labels both_ids below (I64 ∷ I64 ∷ below)
  unfolding both_ids
  with_ids labels below =
      joined labels (field 0 0) (field 1 0) (looked_field labels below 0 0 (lit< tt))
      (looked_field labels (I64 ∷ below) 1 0 (lit< tt))

  by_code : (labels : Labels) (number : ℤ) (code : List Op) → Leads (None ∷ labels) code [] []
      → Leads labels (on_code number code) [] []
  unfolding on_code
  by_code labels number code p =
      with_local 2 (lit< tt) (with_i32 (computed 0x46 I32 I32 are_binary.eq (where_true labels [] code p)))

  with_sign : (labels : Labels) (below : List ValType) (number : ℕ) → Leads labels (sign number) below (I32 ∷ below)
  unfolding sign
  with_sign labels below number =
      joined labels (both_fields number) _ (looked_both labels below number)
      (computed 0x55 I64 I32 are_binary.above
      (joined labels (both_fields number) _ (looked_both labels (I32 ∷ below) number)
      (computed 0x53 I64 I32 are_binary.below (computed 0x6b I32 I32 are_binary.sub none_typed))))

  with_direction : (labels : Labels) (below : List ValType) → Leads labels direction below (I32 ∷ below)
  unfolding direction
  with_direction labels below =
      with_i64 (joined labels (sign 3) _ (with_sign labels (I64 ∷ below) 3)
      (joined labels (sign 4) _ (with_sign labels (I32 ∷ I64 ∷ below) 4)
      (with_i32 (computed 0x6c I32 I32 are_binary.mul (computed 0x6a I32 I32 are_binary.add
      (with_i32 (computed 0x6a I32 I32 are_binary.add
      (with_i32 (computed 0x6c I32 I32 are_binary.mul
      (turned 0xad I32 I64 to_i64 (computed 0x88 I64 I64 both_i64
      (turned 0xa7 I64 I32 to_i32.1
      (with_i32 (computed 0x71 I32 I32 are_binary.and none_typed))))))))))))))

  stepped : (labels : Labels) → Leads labels steps [] []
  unfolding steps
  stepped labels =
      joined labels (field 0 0) _ (looked_field labels [] 0 0 (lit< tt))
      (joined labels direction _ (with_direction labels (I64 ∷ [])) (moved (left none_typed)))

  put_down : (labels : Labels) → Leads labels drops [] []
  unfolding drops
  put_down labels =
      joined labels (field 0 0) _ (looked_field labels [] 0 0 (lit< tt)) (with_i32 (dropped (left none_typed)))

  dug : (labels : Labels) → Leads labels harvests [] []
  unfolding harvests
  dug labels =
      joined labels (seek source_sought) _ (sought_first labels [] source_sought sought_source)
      (joined labels both_ids _ (with_ids labels []) (harvested (local_kept 2 (lit< tt) none_typed)))

  delivered : (labels : Labels) → Leads labels delivers [] []
  unfolding delivers
  delivered labels =
      joined labels (seek spawn_sought) _ (sought_first labels [] spawn_sought sought_spawn)
      (joined labels both_ids _ (with_ids labels [])
      (with_i32 (transferred (local_kept 2 (lit< tt) (by_code labels (negsuc 7) drops (put_down (None ∷ labels)))))))

  looked_load : (labels : Labels) → Leads labels has_room [] (I32 ∷ [])
  unfolding has_room
  looked_load labels =
      joined labels (field 0 8) _ (looked_field labels [] 0 8 (lit< tt))
      (joined labels (field 0 9) _ (looked_field labels (I64 ∷ []) 0 9 (lit< tt))
      (computed 0x53 I64 I32 are_binary.below none_typed))

  had_turn : (labels : Labels) → Leads labels turn [] []
  unfolding turn
  had_turn labels =
      joined labels has_room _ (looked_load labels)
      (joined labels (either harvests delivers) _
      (one_of_two labels [] harvests delivers (dug (None ∷ labels)) (delivered (None ∷ labels)))
      (by_code labels (negsuc 8) steps (stepped (None ∷ labels))))

  -- ---- the function

  looked_creep : (labels : Labels) → Leads labels own_creep [] (I32 ∷ [])
  unfolding own_creep
  looked_creep labels =
      joined labels (of_kind 0 3) _ (looked_kind labels [] 0 3 (lit< tt))
      (joined labels (own 0) _ (looked_owner labels (I32 ∷ []) 0 (lit< tt))
      (computed 0x71 I32 I32 are_binary.and none_typed))

  visited : (labels : Labels) → slice_get labels 1 ≡ Some None → Leads labels visit [] []
  unfolding visit
  visited labels outer =
      joined labels own_creep _ (looked_creep labels)
      (joined labels (when turn) (to_next 0) (where_true labels [] turn (had_turn (None ∷ labels)))
      (gone_on labels 0 (lit< tt) outer))

  pub turns_typed : (labels : Labels) → Leads labels turns [] []
  unfolding turns
  turns_typed labels =
      repeated labels [] (is_seen 0 ++ when visit)
      (joined (None ∷ labels) (is_seen 0) (when visit) (looked_seen (None ∷ labels) [] 0 (lit< tt))
      (where_true (None ∷ labels) [] visit (visited (None ∷ None ∷ labels) refl)))
