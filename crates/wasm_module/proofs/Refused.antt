-- Why sections are refused that hold no module within the limit of nesting.
use Rattle.std.proofs.Common.{◌≡◌, ℕ, ◌<◌, ◌≤◌, List, length, refl, ◌∙◌, subst, arith}
use Rattle.wasm_values.specs.Syntax.{Ops}
use Rattle.wasm_values.specs.Instructions.{SpellsExpression}
use Rattle.wasm_values.specs.inner.Nested.{SpellsLimited}
use Rattle.wasm_values.specs.inner.Skimmed.{SpellsSome}
use Rattle.wasm_module.specs.Sections.{Syntax, Section, AreSections, AreOf, Spells}
use Rattle.wasm_module.specs.Limits.{WithinBytes, IsWithin, PassesFirst, IsTooLarge}
use Rattle.wasm_module.specs.Faults.{decode_fault}
use Rattle.wasm_values.specs.declared.read.ReadFault.{ReadFault}
use Rattle.wasm_values.specs.declared.read.ReadFault.TheVariants as read
use Rattle.wasm_module.specs.declared.module.DecodeFault.{DecodeFault}
use Rattle.wasm_module.specs.declared.module.DecodeFault.TheVariants as decode
use Rattle.wasm_module.specs.declared.module.Limit.{Limit}
use Rattle.wasm_module.specs.declared.module.Limit.TheVariants as limits
use Rattle.wasm_module.proofs.OnceModule.{module_once}
use Rattle.wasm_module.proofs.Lifts.{Lifts, are_lift, are_limited, limited_are}

-- An expression of which nothing is kept is some expression, and the other way round.
some_lift : Lifts SpellsSome SpellsExpression
some_lift = λ text value s. s

whole_lift : Lifts SpellsExpression SpellsSome
whole_lift = λ text ops s. (tt, (ops, s))

-- A fault of a reader that stands for no module was one.
pub fault_is : (fault : ReadFault) (e : DecodeFault) → e ≡ decode_fault fault → e ≡ decode.Malformed → fault ≡ read.Malformed
fault_is read.Malformed e same is = refl
fault_is read.Memory e same is = cc

-- A module that was passed over is one, with as many functions.
pub skimmed : (sections : List Section) (count : ℕ) → (x : Syntax (Unit {0})) × AreOf SpellsSome sections x × (length x.codes ≡ count) → (m : Syntax Ops) × AreOf SpellsExpression sections m × (length m.codes ≡ count)
skimmed sections count (x, a, n) = let m = are_lift SpellsSome SpellsExpression some_lift sections x a in (m.0, m.1, m.2 ∙ n)

pub too_many : (sections : List Section) (count : ℕ) (limit : Limit) → (m : Syntax Ops) × AreOf SpellsExpression sections m × (length m.codes ≡ count) → 10000 < count → limit ≡ limits.Functions → (m : Syntax Ops) × AreOf SpellsExpression sections m × PassesFirst limit m
too_many sections count limit (m, a, n) many is = rw is (m, a, λ within. omega (arith, n, within, many))

pub too_deep : (sections : List Section) (count : ℕ) (limit : Limit) → (m : Syntax Ops) × AreOf SpellsExpression sections m × (length m.codes ≡ count) → count ≤ 10000 → ((m : Syntax Ops) → AreOf SpellsLimited sections m → ⊥) → limit ≡ limits.Nesting → (m : Syntax Ops) × AreOf SpellsExpression sections m × PassesFirst limit m
too_deep sections count limit (m, a, n) few none is = rw is (m, a, (omega (arith, n, few), λ within. none m (are_limited sections m a within)))

-- Where passing over finds none there is none.
pub skimmed_none : (sections : List Section) → ((x : Syntax (Unit {0})) → AreOf SpellsSome sections x → ⊥) → (m : Syntax Ops) → AreOf SpellsExpression sections m → ⊥
skimmed_none sections none m a = let x = are_lift SpellsExpression SpellsSome whole_lift sections m a in none x.0 x.1

-- What the bytes spell is what their only sections hold.
pub sections_none : (bytes : List ℕ) (sections : List Section) → ((other : List Section) → AreSections bytes other → other ≡ sections) → ((m : Syntax Ops) → AreOf SpellsExpression sections m → ⊥) → (m : Syntax Ops) → Spells bytes m → ⊥
sections_none bytes sections only none m (other, are, of) =
    let P : List Section → Type 0 = λ z. AreOf SpellsExpression z m in
    none m (subst P (only other are) of)

-- The first limit that a module passes, which is not that of the bytes.
pub too_large_is : (bytes : List ℕ) (limit : Limit) (m : Syntax Ops) → WithinBytes bytes → Spells bytes m → PassesFirst limit m → IsTooLarge bytes limit
too_large_is bytes limits.Bytes m small s p = absurd p
too_large_is bytes limits.Functions m small s p = (small, m, s, p)
too_large_is bytes limits.Nesting m small s p = (small, m, s, p)
too_large_is bytes limits.Locals m small s p = (small, m, s, p)
too_large_is bytes limits.Pages m small s p = (small, m, s, p)
too_large_is bytes limits.TableEntries m small s p = (small, m, s, p)

-- What sections hold that were read within the limit of nesting is spelled by the bytes.
pub limited_spells : (bytes : List ℕ) (sections : List Section) (m : Syntax Ops) → AreSections bytes sections → AreOf SpellsLimited sections m → Spells bytes m
limited_spells bytes sections m are of = (sections, are, (limited_are sections m of).0)

pub limit_same : (a b : Limit) → decode.TooLarge a ≡ decode.TooLarge b → a ≡ b
limit_same a b e = cc

-- A fault of a reader that does not stand for no module is want of memory.
pub fault_memory : (fault : ReadFault) (e : DecodeFault) → e ≡ decode_fault fault → (fault ≡ read.Malformed → ⊥) → e ≡ decode.Memory
fault_memory read.Malformed e same not = absurd (not refl)
fault_memory read.Memory e same not = same

-- A module within the limits passes none.
pub passes_not : (limit : Limit) (m : Syntax Ops) → PassesFirst limit m → IsWithin m → ⊥
passes_not limits.Bytes m p within = p
passes_not limits.Functions m p within = p within.0
passes_not limits.Nesting m p within = p.1 within.1
passes_not limits.Locals m p within = p.2 within.2
passes_not limits.Pages m p within = p.3 within.3
passes_not limits.TableEntries m p within = p.4 within.4

-- Bytes that pass a limit spell no module within all.
too_large_not : (bytes : List ℕ) (limit : Limit) (m : Syntax Ops) → IsTooLarge bytes limit → WithinBytes bytes → Spells bytes m → IsWithin m → ⊥
too_large_not bytes limits.Bytes m p small s within = p small
too_large_not bytes limits.Functions m (_, n, t, p) small s within = passes_not limits.Functions n p (subst IsWithin (module_once bytes m n s t) within)
too_large_not bytes limits.Nesting m (_, n, t, p) small s within = passes_not limits.Nesting n p (subst IsWithin (module_once bytes m n s t) within)
too_large_not bytes limits.Locals m (_, n, t, p) small s within = passes_not limits.Locals n p (subst IsWithin (module_once bytes m n s t) within)
too_large_not bytes limits.Pages m (_, n, t, p) small s within = passes_not limits.Pages n p (subst IsWithin (module_once bytes m n s t) within)
too_large_not bytes limits.TableEntries m (_, n, t, p) small s within = passes_not limits.TableEntries n p (subst IsWithin (module_once bytes m n s t) within)

-- Where a module within the limits is spelled, no other fault is left than want of memory.
pub complete_from : (bytes : List ℕ) (e : DecodeFault) (m : Syntax Ops) → (e ≡ decode.Malformed → WithinBytes bytes × ((n : Syntax Ops) → Spells bytes n → ⊥)) → ((limit : Limit) → e ≡ decode.TooLarge limit → IsTooLarge bytes limit) → Spells bytes m → WithinBytes bytes → IsWithin m → e ≡ decode.Memory
complete_from bytes decode.Malformed m none large s small within = absurd ((none refl).1 m s)
complete_from bytes (decode.TooLarge limit) m none large s small within = absurd (too_large_not bytes limit m (large limit refl) small s within)
complete_from bytes decode.Memory m none large s small within = refl
