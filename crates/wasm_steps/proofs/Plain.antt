-- A plain instruction does one thing, or traps in one way, and never both.
use Rattle.std.proofs.Common.{◌≡◌, refl, arith}
use Rattle.wasm_values.specs.Syntax.{Op, block, loop, if_else, br, br_if, br_table, return, call, call_indirect}
use Rattle.wasm_steps.specs.Plain.{Data, Does, does_nop, does_i32_const, does_i64_const, does_unary, does_binary, does_test, does_compare, does_convert, does_drop, does_select, does_local_get, does_local_set, does_local_tee, does_global_get, does_global_set, does_load, does_store, does_memory_size, does_memory_grow, does_not_grow, Fails, fails_unreachable, fails_by_zero, fails_overflow, fails_load, fails_store}
use Rattle.wasm_steps.specs.declared.outcome.Trap.{Trap}

-- Two results of an instruction on the same data are equal.
pub does_one : {op : Op} {x y z : Data} → Does op x y → Does op x z → y ≡ z
does_one does_nop does_nop = refl
does_one does_i32_const does_i32_const = refl
does_one does_i64_const does_i64_const = refl
does_one (does_unary u e) (does_unary v f) = cc
does_one (does_unary u e) (does_binary v f g) = absurd (omega arith)
does_one (does_unary u e) (does_test v t f) = absurd (omega arith)
does_one (does_unary u e) (does_compare v t f) = absurd (omega arith)
does_one (does_unary u e) (does_convert v f) = absurd (omega arith)
does_one (does_binary u e h) (does_unary v f) = absurd (omega arith)
does_one (does_binary u e h) (does_binary v f g) = cc
does_one (does_binary u e h) (does_test v t f) = absurd (omega arith)
does_one (does_binary u e h) (does_compare v t f) = absurd (omega arith)
does_one (does_binary u e h) (does_convert v f) = absurd (omega arith)
does_one (does_test u s e) (does_unary v f) = absurd (omega arith)
does_one (does_test u s e) (does_binary v f g) = absurd (omega arith)
does_one (does_test u s e) (does_test v t f) = cc
does_one (does_test u s e) (does_compare v t f) = absurd (t s)
does_one (does_test u s e) (does_convert v f) = absurd (omega arith)
does_one (does_compare u s e) (does_unary v f) = absurd (omega arith)
does_one (does_compare u s e) (does_binary v f g) = absurd (omega arith)
does_one (does_compare u s e) (does_test v t f) = absurd (s t)
does_one (does_compare u s e) (does_compare v t f) = cc
does_one (does_compare u s e) (does_convert v f) = absurd (omega arith)
does_one (does_convert u e) (does_unary v f) = absurd (omega arith)
does_one (does_convert u e) (does_binary v f g) = absurd (omega arith)
does_one (does_convert u e) (does_test v t f) = absurd (omega arith)
does_one (does_convert u e) (does_compare v t f) = absurd (omega arith)
does_one (does_convert u e) (does_convert v f) = cc
does_one (does_drop e) (does_drop f) = cc
does_one (does_select e) (does_select f) = cc
does_one (does_local_get e) (does_local_get f) = cc
does_one (does_local_set l e) (does_local_set m f) = cc
does_one (does_local_tee l e) (does_local_tee m f) = cc
does_one (does_global_get e) (does_global_get f) = cc
does_one (does_global_set l e) (does_global_set m f) = cc
does_one (does_load a s e l) (does_load b t f m) = cc
does_one (does_store a s e l) (does_store b t f m) = cc
does_one does_memory_size does_memory_size = refl
does_one (does_memory_grow e l) (does_memory_grow f m) = cc
does_one (does_memory_grow {by = a} e l) (does_not_grow {by = b} f m) = let same : a ≡ b = cc in absurd (omega arith)
does_one (does_not_grow {by = a} e l) (does_memory_grow {by = b} f m) = let same : a ≡ b = cc in absurd (omega arith)
does_one (does_not_grow e l) (does_not_grow f m) = cc

-- Two traps of an instruction on the same data are equal.
pub fails_one : {op : Op} {x : Data} {s t : Trap} → Fails op x s → Fails op x t → s ≡ t
fails_one fails_unreachable fails_unreachable = refl
fails_one (fails_by_zero u e h) (fails_by_zero v f g) = refl
fails_one (fails_by_zero u e h) (fails_overflow v f n g) = absurd (n (cc))
fails_one (fails_overflow u e n h) (fails_by_zero v f g) = absurd (n (cc))
fails_one (fails_overflow u e n h) (fails_overflow v f m g) = refl
fails_one (fails_load a s e l) (fails_load b t f m) = refl
fails_one (fails_store a s e l) (fails_store b t f m) = refl

-- An instruction that traps has no result.
pub fails_not_do : {op : Op} {x y : Data} {t : Trap} → Fails op x t → Does op x y → ⊥
fails_not_do fails_unreachable d = elim d [ ]
fails_not_do (fails_by_zero v f g) (does_unary u e) = omega arith
fails_not_do (fails_by_zero v f g) (does_binary u e h) = cc
fails_not_do (fails_by_zero v f g) (does_test u s e) = omega arith
fails_not_do (fails_by_zero v f g) (does_compare u s e) = omega arith
fails_not_do (fails_by_zero v f g) (does_convert u e) = omega arith
fails_not_do (fails_overflow v f n g) (does_unary u e) = omega arith
fails_not_do (fails_overflow v f n g) (does_binary u e h) = cc
fails_not_do (fails_overflow v f n g) (does_test u s e) = omega arith
fails_not_do (fails_overflow v f n g) (does_compare u s e) = omega arith
fails_not_do (fails_overflow v f n g) (does_convert u e) = omega arith
fails_not_do (fails_load {a = i} b t f m) (does_load {a = j} a s e l) = let same : i ≡ j = cc in let bytes : a.bytes ≡ b.bytes = cc in omega arith
fails_not_do (fails_store {a = i} b t f m) (does_store {a = j} a s e l) = let same : i ≡ j = cc in let bytes : a.bytes ≡ b.bytes = cc in omega arith

-- The instructions that branch or call.
abbrev pub IsControl : Op → Type 0
IsControl (block result body) = Unit {0}
IsControl (loop result body) = Unit {0}
IsControl (if_else result first second) = Unit {0}
IsControl (br target) = Unit {0}
IsControl (br_if target) = Unit {0}
IsControl (br_table several last) = Unit {0}
IsControl return = Unit {0}
IsControl (call func) = Unit {0}
IsControl (call_indirect index) = Unit {0}
IsControl _ = ⊥

-- They do nothing that a plain one does.
pub control_does_not : {op : Op} {x y : Data} → Does op x y → IsControl op → ⊥
control_does_not does_nop k = k
control_does_not _ k = k

-- Nor do they fail as those do.
pub control_does_not_fail : {op : Op} {x : Data} {t : Trap} → Fails op x t → IsControl op → ⊥
control_does_not_fail fails_unreachable k = k
control_does_not_fail _ k = k
