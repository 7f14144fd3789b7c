-- `OptionalBox` as a type that may hold the type that holds it.
use Rattle.std.specs.Prelude.{◌≡◌, ◌<◌, ◌^◌}
use mathlib.Core.Path.{refl}
use mathlib.Core.Former.{Former, this, const, pair, via}
use base.Stored.{gnum, gcons}
use denote.RattleType.{RattleType}
use denote.RawPtr.{Ptr, count_of}
use denote.HoleLaws.{Alike}
use denote.HolePlaces.{Recodes, struct_places, laid, stays}
use denote.Hole.Fix.{over}
use denote.Param.Weighed.{Weighed}
use denote.Model.Placed.{view_places, held as children_of}
use Rattle.std.specs.declared.option.Option.{Option}
use Rattle.std.specs.declared.option.Option.TheVariants.{None, Some}
use Rattle.std.specs.declared.alloc.Global.{Global}
use Rattle.std.specs.contracts.alloc.Global as heap
use Rattle.optional_box.specs.formers.held.Held as held
use Rattle.optional_box.specs.declared.OptionalBox.TheInside.{Inside}
use Rattle.optional_box.specs.declared.OptionalBox.TheView.{view, invariant}
use Rattle.optional_box.specs.contracts.OptionalBox as C
use Rattle.optional_box.specs.contracts.OptionalBox.TheInside as I

abbrev pub the_former : Former {0} → Former {0}
the_former g = held.option g

abbrev pub the_weighed : {g : Former {0}} → Weighed g → Weighed (the_former g)
the_weighed w = held.w_option w

pub the_empty : Option ⊥
the_empty = None

abbrev fields : Former {0}
fields =
    via (pair (held.the_former this) (const Global)) Inside (λ X a. (a.held, a.alloc))
    (λ X v. record { held = v.0; alloc = v.1 }) (λ X a. refl) (λ X v. refl)

keeps : (X : Type 0) (p : Ptr) (a : Global) (t : count_of p < 2 ^ 63) (b : Global) (v : Option X)
    → children_of (the_former this) X v ≡ children_of fields X (record {
      held = record { at = p; alloc = a; value = v; tested = t };
      alloc = b;
    })
keeps X p a t b None = refl
keeps X p a t b (Some x) = refl

module _ (R S : RattleType) (h : R.Denot → S.Denot) where
  pub the_places : Alike R S h → Alike (C.the_row R) (C.the_row S) ((the_former this).map R.Denot S.Denot h)
  the_places a =
      view_places fields (the_former this) view (λ X Y k u. refl) (λ X u.
      keeps X u.held.at u.held.alloc u.held.tested u.alloc u.held.value) R.Denot S.Denot h (C.the_row R).coded
      (C.the_row S).coded
      (invariant R.Denot) (invariant S.Denot) (λ u p q. refl) (λ u p q. refl) (λ u e. tt) (λ u e. tt)
      (over (I.the_row R)) (over (I.the_row S))
      (struct_places (I.the_type R) (I.the_type S)
      ((held.the_former this).map R.Denot S.Denot h, ((λ x. x), tt)) _ (λ d. refl) refl
      (laid _ _ _ (held.the_places R S h a), (stays heap.the_row, tt)))

  pub the_codes_placed : Recodes R S h
      → Recodes (C.the_row R) (C.the_row S) ((the_former this).map R.Denot S.Denot h)
  the_codes_placed e None = refl
  the_codes_placed e (Some x) = λ i. gcons (gnum 1) (e x i)
