-- Constants by their sign and the number behind it.
use Rattle.std.proofs.Common.{◌≡◌, ℕ, ℤ, pos, ◌-ℤ◌, List, ◌∷◌, drop, sym, ◌∙◌, subst}
use Rattle.std.specs.Prelude.{Option, IfSome, IfNone}
use Rattle.std.specs.Prelude.{None as nothing, Some as found}
use Rattle.wat_grammar.specs.Numbers.{SpellsConstant, in_bits, constant_plain, constant_plus, constant_minus}
use Rattle.wat_grammar.proofs.Numbers.{plus_there, minus_there, plain_there}
use Rattle.wat_tokens.specs.declared.numbers.Natural.{Natural}
use Rattle.wat_tokens.specs.declared.constants.Sign.{Sign}
use Rattle.wat_tokens.specs.declared.constants.Sign.TheVariants.{None, Plus, Minus}
use Rattle.wat_tokens.specs.inner.Naturals.{IsNatural}
use Rattle.wat_tokens.specs.inner.Signs.{IsSigned, HasNumber, IsConstant}

there : (bits : ℕ) (word : List ℕ) (sign : Sign) (constant : ℤ) → IsSigned word sign → SpellsConstant bits word constant → (number : ℕ) × HasNumber word sign number × IsConstant bits sign number constant
there bits word None constant p s = let t = plain_there bits constant word p.0 p.1 s in (t.0, t.1, (t.2, t.3))
there bits word Plus constant p s = let t = plus_there bits constant (drop 1 word) (subst (λ (z : List ℕ). SpellsConstant bits z constant) p s) in (t.0, t.1, (t.2, t.3))
there bits word Minus constant p s = let t = minus_there bits constant (drop 1 word) (subst (λ (z : List ℕ). SpellsConstant bits z constant) p s) in (t.0, t.1, (t.2, t.3))

back : (bits number : ℕ) (word : List ℕ) (sign : Sign) (constant : ℤ) → IsSigned word sign → HasNumber word sign number → IsConstant bits sign number constant → SpellsConstant bits word constant
back bits number word None constant p s (within, is) = rw is (constant_plain s within)
back bits number word Plus constant p s (within, is) = rw is (subst (λ (z : List ℕ). SpellsConstant bits z (in_bits bits number)) (sym p) (constant_plus s within))
back bits number word Minus constant p s (within, is) = rw is (subst (λ (z : List ℕ). SpellsConstant bits z (pos 0 -ℤ pos number)) (sym p) (constant_minus s within))

once : (bits number : ℕ) (sign : Sign) (a b : ℤ) → IsConstant bits sign number a → IsConstant bits sign number b → a ≡ b
once bits number None a b p q = p.1 ∙ sym q.1
once bits number Plus a b p q = p.1 ∙ sym q.1
once bits number Minus a b p q = p.1 ∙ sym q.1

module _ (bits : ℕ) (word : List ℕ) (sign : Sign) (natural : Natural) (signed : IsSigned word sign)
    (only : (number : ℕ) → HasNumber word sign number → IsNatural natural number) where
  pub constant_found : (result : Option ℤ) → ((number : ℕ) × HasNumber word sign number × IsNatural natural number) → ((number : ℕ) → IsNatural natural number → IfSome result (λ constant. IsConstant bits sign number constant)) → IfSome result (λ constant. SpellsConstant bits word constant)
  constant_found nothing (number, s, h) f = tt
  constant_found (found z) (number, s, h) f = back bits number word sign z signed s (f number h)

  pub constant_only : (result : Option ℤ) → ((number : ℕ) → IsNatural natural number → IfSome result (λ constant. IsConstant bits sign number constant)) → IfSome result (λ constant. (other : ℤ) → SpellsConstant bits word other → other ≡ constant)
  constant_only nothing f = tt
  constant_only (found z) f = λ other s. let t = there bits word sign other signed s in once bits t.0 sign other z t.2 (f t.0 (only t.0 t.1))

  pub constant_none : (result : Option ℤ) → ((number : ℕ) → IsNatural natural number → IfNone result ((constant : ℤ) → IsConstant bits sign number constant → ⊥)) → IfNone result ((other : ℤ) → SpellsConstant bits word other → ⊥)
  constant_none nothing f = λ other s. let t = there bits word sign other signed s in f t.0 (only t.0 t.1) other t.2
  constant_none (found z) f = tt

pub no_constant : (bits : ℕ) (word : List ℕ) (sign : Sign) (other : ℤ) → IsSigned word sign → ((number : ℕ) → HasNumber word sign number → ⊥) → SpellsConstant bits word other → ⊥
no_constant bits word sign other signed none s = let t = there bits word sign other signed s in none t.0 t.1
