-- Maps that are made of lists, and what changes make of them.
use Rattle.std.proofs.Common.{◌≡◌, ℕ, not, Bool, true, false, cond, List, [], ◌∷◌, Option, Some, None, refl, sym, ap, ◌∙◌}
use Rattle.std.specs.Ordering.{nat_cmp, eq_by_cmp}
use Rattle.std.specs.Cmp.{nat_cmp_total, eq_by_cmp_equiv}
use Rattle.std.specs.FinMap.{find, put, insert, remove, from_entries, get-from_entries, get-insert, get-remove, same_map, nat_cmp-IsAntisymmetric}
use Rattle.std.specs.FinMap.Entries.{where_key, find-put, find-where_key}

module _ {X : Type 0} where
  turned : (b : Bool) (found : Option X) → cond b None found ≡ cond (not b) found None
  turned true found = refl
  turned false found = refl

  pub insert_listed : (es : List (ℕ × X)) (k : ℕ) (x : X) → insert (from_entries {R = nat_cmp} es) k x ≡ from_entries (put nat_cmp k x es)
  insert_listed es k x = same_map nat_cmp_total nat_cmp-IsAntisymmetric (insert (from_entries es) k x) (from_entries (put nat_cmp k x es)) (λ q.
      get-insert nat_cmp_total (from_entries es) k x q
      ∙ ap (cond (eq_by_cmp nat_cmp q k) (Some x)) (get-from_entries nat_cmp_total es q)
      ∙ sym (get-from_entries nat_cmp_total (put nat_cmp k x es) q ∙ find-put nat_cmp nat_cmp_total q k x es))

  -- a list without the entries of a key
  abbrev pub but : ℕ → List (ℕ × X) → List (ℕ × X)
  but k es = where_key nat_cmp (λ key. not (eq_by_cmp nat_cmp k key)) es

  pub remove_listed : (es : List (ℕ × X)) (k : ℕ) → remove (from_entries {R = nat_cmp} es) k ≡ from_entries (but k es)
  remove_listed es k = same_map nat_cmp_total nat_cmp-IsAntisymmetric (remove (from_entries es) k) (from_entries (but k es)) (λ q.
      get-remove nat_cmp_total (from_entries es) k q
      ∙ ap (cond (eq_by_cmp nat_cmp q k) None) (get-from_entries nat_cmp_total es q)
      ∙ ap (λ b. cond b None (find nat_cmp q es)) ((eq_by_cmp_equiv nat_cmp_total).symm q k)
      ∙ turned (eq_by_cmp nat_cmp k q) (find nat_cmp q es)
      ∙ sym (get-from_entries nat_cmp_total (but k es) q ∙ find-where_key nat_cmp (λ key. not (eq_by_cmp nat_cmp k key)) q (λ x tied. ap (λ key. not (eq_by_cmp nat_cmp k key)) (sym (nat_cmp-IsAntisymmetric q x tied))) es))

  -- the entries in rising order
  abbrev pub risen : List (ℕ × X) → List (ℕ × X)
  risen [] = []
  risen (e ∷ es) = put nat_cmp e.0 e.1 (risen es)

  pub risen_listed : (es : List (ℕ × X)) → from_entries {R = nat_cmp} es ≡ from_entries (risen es)
  risen_listed [] = refl
  risen_listed (e ∷ es) = ap (λ m. insert m e.0 e.1) (risen_listed es) ∙ insert_listed (risen es) e.0 e.1
