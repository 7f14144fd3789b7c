-- `Entries` as a type that may hold the type that holds it.
use mathlib.Core.Path.{◌≡◌, refl, sym}
use mathlib.Core.List.{List, []}
use mathlib.Core.Former.{Former, this, list, via, children}
use base.Stored.{code_map}
use denote.RattleType.{RattleType}
use denote.HoleLaws.{Alike}
use denote.HolePlaces.{Recodes, struct_places, laid}
use denote.Hole.Carrier.{listed, list-listed}
use denote.Hole.Fix.{over}
use denote.Param.Weighed.{Weighed, w_list}
use denote.Model.Placed.{view_places, held as children_of}
use Rattle.std.specs.formers.vec.Vec as vec
use Rattle.std.specs.declared.option.Option.{Option}
use Rattle.std.specs.declared.option.Option.TheVariants.{None, Some}
use Rattle.std.specs.declared.vec.Vec.{Vec}
use Rattle.std.specs.declared.alloc.Global.{Global}
use Rattle.std.specs.contracts.vec.Vec as vec_type
use Rattle.std.specs.contracts.alloc.Global as heap
use Rattle.std.specs.contracts.impls.GlobalAllocator.TheImpl.{ghosts}
use Rattle.optional_box.specs.formers.OptionalBox as optional
use Rattle.wasm_values.specs.declared.entry_lists.Entries.TheInside.{Inside}
use Rattle.wasm_values.specs.declared.entry_lists.Entries.TheView.{view, invariant}
use Rattle.wasm_values.specs.contracts.entry_lists.Entries as C
use Rattle.wasm_values.specs.contracts.entry_lists.Entries.TheInside as I

abbrev pub the_former : Former {0} → Former {0}
the_former g = list g

abbrev pub the_weighed : {g : Former {0}} → Weighed g → Weighed (the_former g)
the_weighed w = w_list w

pub the_empty : List ⊥
the_empty = []

abbrev pub the_items : (X : Type 0) → List X → List X
the_items X d = d

pub the_items_listed : (X : Type 0) (d : List X) → listed _ (children (the_former this) X d) ≡ the_items X d
the_items_listed X d = list-listed X d

abbrev fields : Former {0}
fields =
    via (optional.the_former (vec.the_former this Global)) Inside (λ X a. a.list) (λ X v. record { list = v })
    (λ X a. refl) (λ X v. refl)

natural : (X Y : Type 0) (h : X → Y) (v : Option (Vec X Global))
    → view Y (fields.map X Y h (record { list = v })) ≡ (list this).map X Y h (view X (record { list = v }))
natural X Y h None = refl
natural X Y h (Some v) = refl

keeps : (X : Type 0) (v : Option (Vec X Global))
    → children_of (list this) X (view X (record { list = v })) ≡ children_of fields X (record { list = v })
keeps X None = refl
keeps X (Some v) = refl

module _ (R S : RattleType) (h : R.Denot → S.Denot) where
  pub the_places : Alike R S h → Alike (C.the_row R) (C.the_row S) ((the_former this).map R.Denot S.Denot h)
  the_places a =
      view_places fields (list this) view (λ X Y k u. natural X Y k u.list)
      (λ X u. keeps X u.list) R.Denot S.Denot h (C.the_row R).coded (C.the_row S).coded
      (invariant R.Denot) (invariant S.Denot) (λ u p q. refl) (λ u p q. refl) (λ u e. tt) (λ u e. tt)
      (over (I.the_row R)) (over (I.the_row S))
      (struct_places (I.the_type R) (I.the_type S)
      ((optional.the_former (vec.the_former this Global)).map R.Denot S.Denot h, tt) _ (λ d. refl) refl (
        laid _ _ _ (optional.the_places (vec_type.the_row R heap.the_row ghosts)
            (vec_type.the_row S heap.the_row ghosts) (vec.mapped h)
            (vec.the_places heap.the_row ghosts R S h a)),
        tt,
      ))

  pub the_codes_placed : Recodes R S h
      → Recodes (C.the_row R) (C.the_row S) ((the_former this).map R.Denot S.Denot h)
  the_codes_placed e d = sym (code_map R.coded.code S.coded.code h (λ x. sym (e x)) d)
