-- What the instructions on the memory find on a typed stack, and that they do what they are to do and keep it typed.
use Rattle.std.proofs.Common.{◌≡◌, ◌≢◌, ℕ, ◌+◌, ◌*◌, ◌^◌, ◌<◌, ◌≤◌, ◌↔◌, List, [], ◌∷◌, length, drop, get_or, refl, sym, ap, ◌∙◌, subst, Option, None, Some, inl, inr, IsNone, IsSome, IfSome, IsTrue, Bool, true, false, MatchOption, arith, length-drop}
use Rattle.std.specs.Option.{unwrap_or, option_map}
use Rattle.std.proofs.lemmas.Option.{same_Some}
use Rattle.std.proofs.lemmas.Int.{ints}
use Rattle.std.proofs.lemmas.Bool.Decides.{nat_tests}
use Rattle.wasm_values.specs.Syntax.{no_ops, load, store, memory_size, memory_grow}
use Rattle.wasm_values.specs.declared.types.ValType.{ValType}
use Rattle.wasm_values.specs.declared.types.ValType.TheVariants.{I32, I64}
use Rattle.wasm_store.specs.Bytes.{le_bytes, le_number}
use Rattle.wasm_store.specs.Memory.{Memory, page_count, grown, span, written}
use Rattle.wasm_values.specs.Opcodes.{meaning, meaning_in, opcodes}
use Rattle.wasm_typing.specs.Operations.{Access, load_of, store_of}
use Rattle.wasm_typing.specs.inner.Ranges.{load_by_bounds}
use Rattle.wasm_typing.proofs.Ranges.{load_within}
use Rattle.wasm_steps.specs.Program.{Store, most_values}
use Rattle.wasm_steps.specs.Threads.{size}
use Rattle.wasm_steps.specs.Plain.{Does, does_load, does_store, does_memory_size, does_memory_grow, does_not_grow, fails_load, fails_store, loaded, carried_on, signed_32, signed_64, refused}
use Rattle.wasm_steps.specs.declared.outcome.Trap.TheVariants as traps
use Rattle.wasm_soundness.specs.Typed.{IsValue, no_values, next_value}
use Rattle.wasm_soundness.proofs.Values.{one_value, two_values}
use Rattle.wasm_soundness.proofs.Plain.{offers_load, offers_store, offers_memory_size, offers_memory_grow}
use Rattle.wasm_stack.specs.Held.{Held, running, pushed, without, replaced}
use Rattle.wasm_plain.specs.Done.{data_of, IsNext, IsDone, IsStopped}

-- ---- operands

top_of : (operands : List ℕ) → 1 ≤ length operands → operands ≡ get_or operands 0 0 ∷ drop 1 operands
top_of [] h = absurd (omega arith)
top_of (a ∷ below) h = refl

top_two_of : (operands : List ℕ) → 2 ≤ length operands → operands ≡ get_or operands 0 0 ∷ get_or operands 1 0 ∷ drop 2 operands
top_two_of [] h = absurd (omega arith)
top_two_of (b ∷ []) h = absurd (omega arith)
top_two_of (b ∷ a ∷ below) h = refl

-- ---- tests

pub told_true : {P : Type 0} → (IsTrue true ↔ P) → P
told_true r = r.0 refl

pub told_false : {P : Type 0} → (IsTrue false ↔ P) → P → ⊥
told_false r p = let e : false ≡ true = r.1 p in cc

-- ---- loads

-- Its type, and the address on top.
pub record HasAddress (op : ℕ) (h : Held) : Type 0 where
  pub access : Access
  pub known : load_of op ≡ Some access
  pub there : 1 ≤ length h.operands
  pub small : get_or h.operands 0 0 < 2 ^ 32

pub has_address : {h : Held} {s : Store} (op align offset : ℕ) → IsNext (load op align offset) h s → HasAddress op h
has_address {h} op align offset n =
    let o = offers_load (running n.rest h) op align offset n.thread in
    record { access = o.0; known = o.1; there = o.2.there; small = one_value I32 h.operands o.2.values }

pub load_done : {h new : Held} {first s : Store} {memory : Memory} (op align offset address value : ℕ) (access : Access)
    → IsNext (load op align offset) h first → s.memory ≡ memory → load_of op ≡ Some access → address ≡ get_or h.operands 0 0 + offset
    → address + access.bytes ≤ length memory.bytes → value ≡ loaded access (le_number (span memory address access.bytes)) → IsValue access.value value
    → new ≡ replaced 1 value h → IsDone (load op align offset) h s new s
load_done {h} {new} {first} {s} {memory} op align offset address value access n same known at within is v e =
    let f = has_address op align offset n in
    let place = get_or h.operands 0 0 + offset in
    let there : place + access.bytes ≤ length s.memory.bytes = subst (λ (m : Memory). place + access.bytes ≤ length m.bytes) (sym same) (omega (arith, within, at)) in
    let taken : value ≡ loaded access (le_number (span s.memory place access.bytes)) =
    is ∙ ap (λ (m : Memory). loaded access (le_number (span m address access.bytes))) (sym same) ∙ ap (λ (x : ℕ). loaded access (le_number (span s.memory x access.bytes))) at in
    subst (λ (z : Held). IsDone (load op align offset) h s z s) (sym e) (record {
      does = subst (λ (x : ℕ). Does (load op align offset) (data_of h s) (data_of (replaced 1 x h) s)) (sym taken) (does_load access known (top_of h.operands f.there) there);
      levels = refl;
      room = omega (arith, n.thread.room, length-drop 1 h.operands, f.there);
      thread = λ base rest p q.
          let o = offers_load (running rest h) op align offset p in
          o.2.gives (value ∷ []) (next_value (subst (λ (z : Access). IsValue z.value value) (same_Some access o.0 (sym known ∙ o.1)) v) no_values) (omega (arith, p.room, length-drop 1 h.operands, f.there));
      store = λ base rest p q. q;
    })

pub load_stopped : {h : Held} {first s : Store} {memory : Memory} (op align offset address : ℕ) (access : Access)
    → IsNext (load op align offset) h first → s.memory ≡ memory → load_of op ≡ Some access → address ≡ get_or h.operands 0 0 + offset
    → length memory.bytes < address + access.bytes → IsStopped (load op align offset) h s traps.MemoryBounds h s
load_stopped {h} {first} {s} {memory} op align offset address access n same known at past =
    let f = has_address op align offset n in
    let place = get_or h.operands 0 0 + offset in
    record {
      cause = inl (fails_load access known (top_of h.operands f.there) (subst (λ (m : Memory). length m.bytes < place + access.bytes) (sym same) (omega (arith, past, at))));
      held = refl;
      stored = refl;
    }

-- ---- stores

-- Its type, and the address below the value.
pub record HasAddressBelow (op : ℕ) (h : Held) : Type 0 where
  pub access : Access
  pub known : store_of op ≡ Some access
  pub there : 2 ≤ length h.operands
  pub small : get_or h.operands 1 0 < 2 ^ 32

pub has_address_below : {h : Held} {s : Store} (op align offset : ℕ) → IsNext (store op align offset) h s → HasAddressBelow op h
has_address_below {h} op align offset n =
    let o = offers_store (running n.rest h) op align offset n.thread in
    record { access = o.0; known = o.1; there = o.2.there; small = (two_values o.0.value I32 h.operands o.2.values).1 }

pub store_done : {h new : Held} {first s : Store} {memory after : Memory} (op align offset address value width : ℕ) (access : Access)
    → IsNext (store op align offset) h first → s.memory ≡ memory → store_of op ≡ Some access → address ≡ get_or h.operands 1 0 + offset
    → value ≡ get_or h.operands 0 0 → width ≡ access.bytes
    → address + width ≤ length memory.bytes → after ≡ written memory address (le_bytes width value)
    → new ≡ without 2 h → IsDone (store op align offset) h s new (record s { memory = after })
store_done {h} {new} {first} {s} {memory} {after} op align offset address value width access n same known at top wide within is e =
    let f = has_address_below op align offset n in
    let place = get_or h.operands 1 0 + offset in
    let there : place + access.bytes ≤ length s.memory.bytes = subst (λ (m : Memory). place + access.bytes ≤ length m.bytes) (sym same) (omega (arith, within, at, wide)) in
    let made : after ≡ written s.memory place (le_bytes access.bytes (get_or h.operands 0 0)) =
    is ∙ ap (λ (m : Memory). written m address (le_bytes width value)) (sym same) ∙ ap (λ (x : ℕ). written s.memory x (le_bytes width value)) at
    ∙ ap (λ (x : ℕ). written s.memory place (le_bytes x value)) wide ∙ ap (λ (x : ℕ). written s.memory place (le_bytes access.bytes x)) top in
    subst (λ (z : Held). IsDone (store op align offset) h s z (record s { memory = after })) (sym e) (record {
      does = subst (λ (m : Memory). Does (store op align offset) (data_of h s) (data_of (without 2 h) (record s { memory = m }))) (sym made) (does_store access known (top_two_of h.operands f.there) there);
      levels = refl;
      room = omega (arith, n.thread.room, length-drop 2 h.operands);
      thread = λ base rest p q.
          let o = offers_store (running rest h) op align offset p in
          o.2.gives [] no_values (omega (arith, p.room, length-drop 2 h.operands));
      store = λ base rest p q. record { globals = q.globals; table = q.table };
    })

-- a memory that is as it was
stored_again : (s : Store) (memory after : Memory) → s.memory ≡ memory → after ≡ memory → record s { memory = after } ≡ s
stored_again s memory after same unchanged = ap (λ (m : Memory). record s { memory = m }) (unchanged ∙ sym same)

pub store_stopped : {h : Held} {first s : Store} {memory after : Memory} (op align offset address width : ℕ) (access : Access)
    → IsNext (store op align offset) h first → s.memory ≡ memory → store_of op ≡ Some access → address ≡ get_or h.operands 1 0 + offset
    → width ≡ access.bytes → length memory.bytes < address + width → after ≡ memory → IsStopped (store op align offset) h s traps.MemoryBounds h (record s { memory = after })
store_stopped {h} {first} {s} {memory} {after} op align offset address width access n same known at wide past unchanged =
    let f = has_address_below op align offset n in
    let place = get_or h.operands 1 0 + offset in
    record {
      cause = inl (fails_store access known (top_two_of h.operands f.there) (subst (λ (m : Memory). length m.bytes < place + access.bytes) (sym same) (omega (arith, past, at, wide))));
      held = refl;
      stored = stored_again s memory after same unchanged;
    }

-- ---- the size

pub size_done : {h new : Held} {s : Store} {memory : Memory} (pages : ℕ)
    → s.memory ≡ memory → pages ≡ page_count memory → pages < 2 ^ 32 → size (running no_ops h) < most_values
    → new ≡ pushed pages h → IsDone memory_size h s new s
size_done {h} {new} {s} {memory} pages same is small room e =
    let taken : pages ≡ page_count s.memory = is ∙ ap page_count (sym same) in
    subst (λ (z : Held). IsDone memory_size h s z s) (sym e) (record {
      does = subst (λ (x : ℕ). Does memory_size (data_of h s) (data_of (pushed x h) s)) (sym taken) does_memory_size;
      levels = refl;
      room = omega (arith, room);
      thread = λ base rest p q. (offers_memory_size (running rest h) p).gives (pages ∷ []) (next_value small no_values) (omega (arith, room));
      store = λ base rest p q. q;
    })

pub size_stopped : {h new : Held} {s : Store} → most_values ≤ size (running no_ops h) → new ≡ h → IsStopped memory_size h s traps.StackFull new s
size_stopped {h} {new} {s} full same = record {
  cause = inr (refl, record { result = data_of (pushed (page_count s.memory) h) s; does = does_memory_size; full = omega (arith, full) });
  held = same;
  stored = refl;
}

-- ---- growths

pub record HasCount (h : Held) : Type 0 where
  pub there : 1 ≤ length h.operands
  pub small : get_or h.operands 0 0 < 2 ^ 32

pub has_count : {h : Held} {s : Store} → IsNext memory_grow h s → HasCount h
has_count {h} n =
    let o = offers_memory_grow (running n.rest h) n.thread in
    record { there = o.there; small = one_value I32 h.operands o.values }

answer_put : {h : Held} {first s : Store} (answer : ℕ) (after : Memory) → IsNext memory_grow h first → answer < 2 ^ 32
    → Does memory_grow (data_of h s) (data_of (replaced 1 answer h) (record s { memory = after }))
    → IsDone memory_grow h s (replaced 1 answer h) (record s { memory = after })
answer_put {h} {first} {s} answer after n small d =
    let f = has_count n in
    record {
      does = d;
      levels = refl;
      room = omega (arith, n.thread.room, length-drop 1 h.operands, f.there);
      thread = λ base rest p q. (offers_memory_grow (running rest h) p).gives (answer ∷ []) (next_value small no_values) (omega (arith, p.room, length-drop 1 h.operands, f.there));
      store = λ base rest p q. record { globals = q.globals; table = q.table };
    }

-- the answer of `Pages::grow`, and the memory behind it
pub record IsGrown (memory after : Memory) (by : ℕ) (found : Option ℕ) : Type 0 where
  pub range : IsNone found ↔ (memory.limit < page_count memory + by)
  pub size : IfSome found (λ n. n ≡ page_count memory)
  pub grown : IsSome found → after ≡ grown memory by
  pub unchanged : IsNone found → after ≡ memory

does_grow : (h : Held) (s : Store) (after : Memory) (answer : ℕ) (found : Option ℕ) → 1 ≤ length h.operands → IsGrown s.memory after (get_or h.operands 0 0) found
    → answer ≡ unwrap_or found refused → Does memory_grow (data_of h s) (data_of (replaced 1 answer h) (record s { memory = after }))
does_grow h s after answer None there g e =
    subst (λ (x : ℕ). Does memory_grow (data_of h s) (data_of (replaced 1 x h) (record s { memory = after }))) (sym e)
    (subst (λ (m : Memory). Does memory_grow (data_of h s) (data_of (replaced 1 refused h) (record s { memory = m }))) (sym (g.unchanged refl))
    (does_not_grow (top_of h.operands there) (g.range.0 refl)))
does_grow h s after answer (Some count) there g e =
    subst (λ (x : ℕ). Does memory_grow (data_of h s) (data_of (replaced 1 x h) (record s { memory = after }))) (sym (e ∙ g.size))
    (subst (λ (m : Memory). Does memory_grow (data_of h s) (data_of (replaced 1 (page_count s.memory) h) (record s { memory = m }))) (sym (g.grown refl))
    (does_memory_grow (top_of h.operands there) (grind (arith, g.range.1))))

pub grow_done : {h new : Held} {first s : Store} {memory after : Memory} (by answer : ℕ) (found : Option ℕ)
    → IsNext memory_grow h first → s.memory ≡ memory → by ≡ get_or h.operands 0 0 → IsGrown memory after by found → answer ≡ unwrap_or found refused
    → answer < 2 ^ 32 → new ≡ replaced 1 answer h → IsDone memory_grow h s new (record s { memory = after })
grow_done {h} {new} {first} {s} {memory} {after} by answer found n same top g is small e =
    let g' = subst (λ (x : ℕ). IsGrown s.memory after x found) top (subst (λ (m : Memory). IsGrown m after by found) (sym same) g) in
    subst (λ (z : Held). IsDone memory_grow h s z (record s { memory = after })) (sym e)
    (answer_put answer after n small (does_grow h s after answer found (has_count n).there g' is))

-- ---- what a load makes of the bytes

-- What a load of the opcode comes to at an address.
abbrev pub Reads : ℕ → Memory → ℕ → Option ℕ → Type 0
Reads op memory address result = (access : Access) → load_of op ≡ Some access
    → MatchOption result (length memory.bytes < address + access.bytes)
    (λ value. (address + access.bytes ≤ length memory.bytes) × (value ≡ loaded access (le_number (span memory address access.bytes))) × IsValue access.value value)

-- what `Pages::load` says
pub record IsFound (memory : Memory) (address bytes : ℕ) (found : Option ℕ) : Type 0 where
  pub range : IsNone found ↔ (length memory.bytes < address + bytes)
  pub value : IfSome found (λ n. n ≡ le_number (span memory address bytes))
  pub narrow : IfSome found (λ n. n < 2 ^ (8 * bytes))

within_of : {a b : ℕ} (n : ℕ) → (IsNone (Some n) ↔ (a < b)) → b ≤ a
within_of n r = grind (arith, r.1)

reads_known : (op : ℕ) (memory : Memory) (address : ℕ) (result : Option ℕ) (access : Access) → load_of op ≡ Some access
    → MatchOption result (length memory.bytes < address + access.bytes)
    (λ value. (address + access.bytes ≤ length memory.bytes) × (value ≡ loaded access (le_number (span memory address access.bytes))) × IsValue access.value value)
    → Reads op memory address result
reads_known op memory address result access known p other e =
    subst (λ (z : Access). MatchOption result (length memory.bytes < address + z.bytes)
    (λ value. (address + z.bytes ≤ length memory.bytes) × (value ≡ loaded z (le_number (span memory address z.bytes))) × IsValue z.value value))
    (same_Some access other (sym known ∙ e)) p

abbrev reading : ValType → ℕ → Bool → Access
reading type bytes signed = record { value = type; bytes = bytes; signed = signed }

module _ (op : ℕ) (memory : Memory) (address : ℕ) (type : ValType) (bytes : ℕ) where
  -- as it stands
  whole : load_of op ≡ Some (reading type bytes false) → (found : Option ℕ) → ((n : ℕ) → n < 2 ^ (8 * bytes) → IsValue type n) → IsFound memory address bytes found
      → Reads op memory address found
  whole known None small r = reads_known op memory address None (reading type bytes false) known (r.range.0 refl)
  whole known (Some n) small r = reads_known op memory address (Some n) (reading type bytes false) known (within_of n r.range, r.value, small n r.narrow)

  -- with its sign carried on
  signed : load_of op ≡ Some (reading type bytes true) → (found : Option ℕ) (extended : ℕ → ℕ) → ((n : ℕ) → carried_on type bytes n ≡ extended n) → ((n : ℕ) → n < 2 ^ (8 * bytes) → IsValue type (extended n)) → IsFound memory address bytes found
      → Reads op memory address (option_map extended found)
  signed known None extended same small r = reads_known op memory address None (reading type bytes true) known (r.range.0 refl)
  signed known (Some n) extended same small r =
      reads_known op memory address (Some (extended n)) (reading type bytes true) known (within_of n r.range, ap extended r.value ∙ sym (same (le_number (span memory address bytes))), small n r.narrow)

module _ (memory : Memory) (address : ℕ) (found : Option ℕ) where
  pub reads_i32 : IsFound memory address 4 found → Reads 0x28 memory address found
  unfolding load_of meaning meaning_in opcodes
  reads_i32 = whole 0x28 memory address I32 4 refl found (λ n h. h)

  pub reads_i64 : IsFound memory address 8 found → Reads 0x29 memory address found
  unfolding load_of meaning meaning_in opcodes
  reads_i64 = whole 0x29 memory address I64 8 refl found (λ n h. h)

  pub reads_i32_8_s : IsFound memory address 1 found → Reads 0x2c memory address (option_map (signed_32 1) found)
  unfolding load_of meaning meaning_in opcodes
  reads_i32_8_s = signed 0x2c memory address I32 1 refl found (signed_32 1) (λ n. refl) (λ n h. omega (arith, ints))

  pub reads_i32_8_u : IsFound memory address 1 found → Reads 0x2d memory address found
  unfolding load_of meaning meaning_in opcodes
  reads_i32_8_u = whole 0x2d memory address I32 1 refl found (λ n h. omega arith)

  pub reads_i32_16_s : IsFound memory address 2 found → Reads 0x2e memory address (option_map (signed_32 2) found)
  unfolding load_of meaning meaning_in opcodes
  reads_i32_16_s = signed 0x2e memory address I32 2 refl found (signed_32 2) (λ n. refl) (λ n h. omega (arith, ints))

  pub reads_i32_16_u : IsFound memory address 2 found → Reads 0x2f memory address found
  unfolding load_of meaning meaning_in opcodes
  reads_i32_16_u = whole 0x2f memory address I32 2 refl found (λ n h. omega arith)

  pub reads_i64_8_s : IsFound memory address 1 found → Reads 0x30 memory address (option_map (signed_64 1) found)
  unfolding load_of meaning meaning_in opcodes
  reads_i64_8_s = signed 0x30 memory address I64 1 refl found (signed_64 1) (λ n. refl) (λ n h. omega (arith, ints))

  pub reads_i64_8_u : IsFound memory address 1 found → Reads 0x31 memory address found
  unfolding load_of meaning meaning_in opcodes
  reads_i64_8_u = whole 0x31 memory address I64 1 refl found (λ n h. omega arith)

  pub reads_i64_16_s : IsFound memory address 2 found → Reads 0x32 memory address (option_map (signed_64 2) found)
  unfolding load_of meaning meaning_in opcodes
  reads_i64_16_s = signed 0x32 memory address I64 2 refl found (signed_64 2) (λ n. refl) (λ n h. omega (arith, ints))

  pub reads_i64_16_u : IsFound memory address 2 found → Reads 0x33 memory address found
  unfolding load_of meaning meaning_in opcodes
  reads_i64_16_u = whole 0x33 memory address I64 2 refl found (λ n h. omega arith)

  pub reads_i64_32_s : IsFound memory address 4 found → Reads 0x34 memory address (option_map (signed_64 4) found)
  unfolding load_of meaning meaning_in opcodes
  reads_i64_32_s = signed 0x34 memory address I64 4 refl found (signed_64 4) (λ n. refl) (λ n h. omega (arith, ints))

  pub reads_i64_32_u : IsFound memory address 4 found → Reads 0x35 memory address found
  unfolding load_of meaning meaning_in opcodes
  reads_i64_32_u = whole 0x35 memory address I64 4 refl found (λ n h. omega arith)

-- The opcodes of loads lie side by side, but for two of floats.
load_between : (op : ℕ) (access : Access) → load_by_bounds op ≡ Some access → (0x28 ≤ op) × (op ≤ 0x35) × (op ≢ 0x2a) × (op ≢ 0x2b)
unfolding load_by_bounds
load_between op access e = (grind (arith, nat_tests), grind (arith, nat_tests), grind (arith, nat_tests), grind (arith, nat_tests))

pub load_known : (op : ℕ) (access : Access) → load_of op ≡ Some access → (0x28 ≤ op) × (op ≤ 0x35) × (op ≢ 0x2a) × (op ≢ 0x2b)
load_known op access e = load_between op (record access { signed = false }) (load_within op access e)
