-- `Held` as a type that may hold the type that holds it.
--     option      the former of an `Option`
use Rattle.std.specs.Prelude.{◌≡◌, ◌⊎◌, ◌<◌, ◌^◌}
use mathlib.Core.Path.{refl}
use mathlib.Core.Logic.{inl, inr}
use mathlib.Core.Former.{Former, this, const, pair, or, via}
use base.Stored.{Gv, gcons}
use base.Fml.{fsep}
use base.Fraction.{full_share}
use mir.Raw.{raw as bare}
use denote.RattleType.{RattleType}
use denote.Memory.{lone}
use denote.RawPtr.{Ptr, count_of}
use denote.Sharing.{beside}
use denote.Struct.Struct.{Struct}
use denote.Struct.Owning.{shape, to}
use denote.HoleLaws.{Alike}
use denote.HolePlaces.{Recodes}
use denote.Param.Weighed.{Weighed, w_const, w_pair, w_or, w_via}
use Rattle.std.specs.declared.option.Option.{Option}
use Rattle.std.specs.declared.option.Option.TheVariants.{None, Some}
use Rattle.std.specs.declared.alloc.Global.{Global}
use Rattle.std.specs.contracts.impls.GlobalAllocator.TheImpl.{ghosts}
use Rattle.std_alloc.specs.Vec.Recursive.{lies_placed, lent_at_placed}
use Rattle.optional_box.specs.declared.held.Held.{Held}
use Rattle.optional_box.specs.Held.{owned, lent}
use Rattle.optional_box.specs.contracts.held.Held as C

abbrev Rest : Type 0
Rest = (p : Ptr) × Global × (count_of p < 2 ^ 63)

module _ (g : Former {0}) where
  abbrev split : (X : Type 0) → Option (g.Of X) → Unit {0} ⊎ g.Of X
  split X None = inl tt
  split X (Some x) = inr x

  abbrev joined : (X : Type 0) → Unit {0} ⊎ g.Of X → Option (g.Of X)
  joined X (inl u) = None
  joined X (inr x) = Some x

  pub joined-split : (X : Type 0) (v : Option (g.Of X)) → joined X (split X v) ≡ v
  joined-split X None = refl
  joined-split X (Some x) = refl

  pub split-joined : (X : Type 0) (v : Unit {0} ⊎ g.Of X) → split X (joined X v) ≡ v
  split-joined X (inl u) = refl
  split-joined X (inr x) = refl

  abbrev pub option : Former {0}
  option = via (or (const (Unit {0})) g) (λ X. Option (g.Of X)) split joined joined-split split-joined

abbrev pub w_option : {g : Former {0}} → Weighed g → Weighed (option g)
w_option {g} w =
    w_via (w_or (w_const (Unit {0})) w) (λ X. Option (g.Of X)) (split g) (joined g) (joined-split g)
    (split-joined g)

abbrev pub the_former : Former {0} → Former {0}
the_former g =
    via (pair (const Rest) (option g)) (λ X. Held (g.Of X)) (λ X d. ((d.at, d.alloc, d.tested), d.value))
    (λ X v. record { at = v.0.0; alloc = v.0.1; value = v.1; tested = v.0.2 }) (λ X d. refl) (λ X v. refl)

abbrev pub the_weighed : {g : Former {0}} → Weighed g → Weighed (the_former g)
the_weighed {g} w =
    w_via (w_pair (w_const Rest) (w_option w)) (λ X. Held (g.Of X))
    (λ X d. ((d.at, d.alloc, d.tested), d.value))
    (λ X v. record { at = v.0.0; alloc = v.0.1; value = v.1; tested = v.0.2 }) (λ X d. refl) (λ X v. refl)

first : {a b c : Gv} → a ≡ b → gcons a c ≡ gcons b c
first {c = c} e = λ i. gcons (e i) c

second : {a b c : Gv} → a ≡ b → gcons c a ≡ gcons c b
second {c = c} e = λ i. gcons c (e i)

module _ (R R' : RattleType) (h : R.Denot → R'.Denot) where
  abbrev mapped : Option R.Denot → Option R'.Denot
  mapped = (option this).map R.Denot R'.Denot h

  module _ (a : Alike R R' h) where
    owned_placed : (al : Global) (p : Ptr) (v : Option R.Denot) → owned R' al p (mapped v) ≡ owned R al p v
    owned_placed al p None = refl
    owned_placed al p (Some x) =
        λ i. fsep (lies_placed R R' h a full_share p x i)
        (ghosts.dealloc_token al (bare (lone (a.mir_same i))) p)

    lent_placed : (p : Ptr) (v : Option R.Denot) → lent R' p (mapped v) ≡ lent R p v
    lent_placed p None = refl
    lent_placed p (Some x) = lent_at_placed R R' h a p x

  pub the_places : Alike R R' h
      → Alike (C.the_row R) (C.the_row R') ((the_former this).map R.Denot R'.Denot h)
  the_places a = record {
    mir_same = refl;
    own_same =
        λ d i vs. fsep ((Struct (shape (C.the_type R))).own_val (to (C.the_type R) d) vs)
        (owned_placed a d.alloc d.at d.value i);
    shr_same =
        λ d i b o. beside ((Struct (shape (C.the_type R))).shr_at (to (C.the_type R) d) b o)
        (lent_placed a d.at d.value i);
  }

  placed_code : Recodes R R' h → (p : Ptr) (al : Global) (t : count_of p < 2 ^ 63) (v : Option R.Denot)
      → (C.the_row R').coded.code (record {
        at = p;
        alloc = al;
        value = mapped v;
        tested = t;
      }) ≡ (C.the_row R).coded.code
      (record { at = p; alloc = al; value = v; tested = t })
  placed_code e p al t None = refl
  placed_code e p al t (Some x) = second (first (second (e x)))

  pub the_codes_placed : Recodes R R' h
      → Recodes (C.the_row R) (C.the_row R') ((the_former this).map R.Denot R'.Denot h)
  the_codes_placed e d = placed_code e d.at d.alloc d.tested d.value
