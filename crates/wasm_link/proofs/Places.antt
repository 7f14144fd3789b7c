-- The spans of segments, and the first that is past the end.
use Rattle.std.proofs.Common.{◌≡◌, ℕ, ◌+◌, ◌-◌, ◌*◌, ◌<◌, ◌≤◌, ◌⊎◌, inl, inr, List, [], ◌∷◌, ◌++◌, length, map, refl, ap, sym, ◌∙◌, subst, arith, Some, slice_get, All}
use Rattle.std.proofs.lemmas.List.{length-map, length-replicate}
use Rattle.std.proofs.lemmas.List.Elements.{All-append, All-map}
use Rattle.std.proofs.lemmas.Option.{slice_get_within}
use Rattle.wasm_module.specs.Sections.{module_view}
use Rattle.wasm_module.specs.Entries.{element_view, segment_view}
use Rattle.wasm_module.specs.declared.elements.Element.{Element}
use Rattle.wasm_module.specs.declared.module.Module.{Module}
use Rattle.wasm_module.specs.declared.segments.Segment.{Segment}
use Rattle.wasm_values.specs.declared.types.Bounds.{Bounds}
use Rattle.wasm_typing.proofs.Imported.{unmapped}
use Rattle.wasm_link.specs.Linking.{Span, Fits, spans, table_span, memory_span, table_size, first_memory, FirstNot}
use Rattle.wasm_link.specs.Made.{element_span, data_span}
use Rattle.wasm_link.proofs.Each.{before_or, found_under, all_at, all_left, all_right, get_left, get_right, get_map}

pub memory_size : (memories : List Bounds) → length (first_memory memories).bytes ≡ table_size memories * 65536
memory_size [] = length-replicate {A = ℕ} 0 0
memory_size (bounds ∷ more) = length-replicate {A = ℕ} (bounds.min * 65536) 0

-- the first of a list that stands under a function
pub first_under : {A B : Type 0} (P : B → Type 0) (f : A → B) (xs : List A) (place : ℕ) → FirstNot (λ x. P (f x)) xs place → FirstNot P (map f xs) place
first_under P f xs place h = record {
  entry = f h.entry;
  stands = get_map f xs place h.entry h.stands;
  refused = h.refused;
  before = λ earlier other below e.
      let r = found_under f xs earlier other e in
      subst P r.2 (h.before earlier r.0 below r.1);
}

pub first_left : {A : Type 0} (P : A → Type 0) (xs ys : List A) (place : ℕ) → FirstNot P xs place → FirstNot P (xs ++ ys) place
first_left P xs ys place h =
    let within = slice_get_within xs place h.entry h.stands in
    record {
      entry = h.entry;
      stands = get_left xs ys place within ∙ h.stands;
      refused = h.refused;
      before = λ earlier other below e. h.before earlier other below (sym (get_left xs ys earlier (omega (arith, below, within))) ∙ e);
    }

before_right : {A : Type 0} (P : A → Type 0) (xs ys : List A) (place earlier : ℕ) (other : A) → All P xs → FirstNot P ys place → earlier < length xs + place → slice_get (xs ++ ys) earlier ≡ Some other
    → (earlier < length xs) ⊎ (length xs ≤ earlier) → P other
before_right P xs ys place earlier other all h below e (inl left) = all_at P xs earlier other all (sym (get_left xs ys earlier left) ∙ e)
before_right P xs ys place earlier other all h below e (inr past) =
    h.before (earlier - length xs) other (omega (arith, below, past)) (sym (get_right xs ys earlier (earlier - length xs) (omega (arith, past))) ∙ e)

pub first_right : {A : Type 0} (P : A → Type 0) (xs ys : List A) (place there : ℕ) → there ≡ length xs + place → All P xs → FirstNot P ys place → FirstNot P (xs ++ ys) there
first_right P xs ys place there is all h = record {
  entry = h.entry;
  stands = get_right xs ys there place is ∙ h.stands;
  refused = h.refused;
  before = λ earlier other below e. before_right P xs ys place earlier other all h (omega (arith, below, is)) e (before_or earlier (length xs));
}

-- ---- the segments of a module

map_twice : {A B C : Type 0} (f : A → B) (g : B → C) (xs : List A) → map g (map f xs) ≡ map (λ x. g (f x)) xs
map_twice f g [] = refl
map_twice f g (x ∷ xs) = ap (λ z. g (f x) ∷ z) (map_twice f g xs)

pub spans_are : (m : Module) (elements : List Element) (segments : List Segment) (entries bytes : ℕ) → elements ≡ m.elements → segments ≡ m.segments → entries ≡ table_size m.tables → bytes ≡ length (first_memory m.memories).bytes
    → spans (module_view m) ≡ map (element_span entries) elements ++ map (data_span bytes) segments
spans_are m elements segments entries bytes e s t b =
    ap (λ z. z ++ map (memory_span (module_view m)) (map segment_view m.segments)) (map_twice element_view (table_span (module_view m)) m.elements)
    ∙ ap (λ z. map (element_span (table_size m.tables)) m.elements ++ z) (map_twice segment_view (memory_span (module_view m)) m.segments)
    ∙ ap (λ z. map (element_span z) m.elements ++ map (data_span (length (first_memory m.memories).bytes)) m.segments) (sym t)
    ∙ ap (λ z. map (element_span entries) m.elements ++ map (data_span z) m.segments) (sym b)
    ∙ ap (λ z. map (element_span entries) z ++ map (data_span bytes) m.segments) (sym e)
    ∙ ap (λ z. map (element_span entries) elements ++ map (data_span bytes) z) (sym s)

module _ (m : Module) (all : All Fits (spans (module_view m))) where
  whole : spans (module_view m) ≡ map (element_span (table_size m.tables)) m.elements ++ map (data_span (length (first_memory m.memories).bytes)) m.segments
  whole = spans_are m m.elements m.segments (table_size m.tables) (length (first_memory m.memories).bytes) refl refl refl refl

  pub elements_fit : All (λ segment. Fits (element_span (table_size m.tables) segment)) m.elements
  elements_fit = unmapped Fits (element_span (table_size m.tables)) m.elements
      (all_left Fits (map (element_span (table_size m.tables)) m.elements) (map (data_span (length (first_memory m.memories).bytes)) m.segments) (subst (λ (z : List Span). All Fits z) whole all))

  pub data_fits : All (λ segment. Fits (data_span (length (first_memory m.memories).bytes) segment)) m.segments
  data_fits = unmapped Fits (data_span (length (first_memory m.memories).bytes)) m.segments
      (all_right Fits (map (element_span (table_size m.tables)) m.elements) (map (data_span (length (first_memory m.memories).bytes)) m.segments) (subst (λ (z : List Span). All Fits z) whole all))

module _ (elements : List Element) (segments : List Segment) (entries bytes : ℕ) (found_all : List Span) (is : found_all ≡ map (element_span entries) elements ++ map (data_span bytes) segments) where
  pub all_fit : All (λ segment. Fits (element_span entries segment)) elements → All (λ segment. Fits (data_span bytes segment)) segments → All Fits found_all
  all_fit e s = subst (λ (z : List Span). All Fits z) (sym is) (All-append Fits (map (element_span entries) elements) (map (data_span bytes) segments) (All-map Fits (element_span entries) elements e) (All-map Fits (data_span bytes) segments s))

  pub misfit_element : (place : ℕ) → FirstNot (λ segment. Fits (element_span entries segment)) elements place → FirstNot Fits found_all place
  misfit_element place h = subst (λ (z : List Span). FirstNot Fits z place) (sym is) (first_left Fits (map (element_span entries) elements) (map (data_span bytes) segments) place (first_under Fits (element_span entries) elements place h))

  pub misfit_data : (place there : ℕ) → there ≡ length elements + place → All (λ segment. Fits (element_span entries segment)) elements → FirstNot (λ segment. Fits (data_span bytes segment)) segments place → FirstNot Fits found_all there
  misfit_data place there e all h =
      let at : there ≡ length (map (element_span entries) elements) + place = e ∙ ap (λ z. z + place) (sym (length-map elements (element_span entries))) in
      subst (λ (z : List Span). FirstNot Fits z there) (sym is) (first_right Fits (map (element_span entries) elements) (map (data_span bytes) segments) place there at (All-map Fits (element_span entries) elements all) (first_under Fits (data_span bytes) segments place h))

-- The place of a segment is below the number of all.
pub place_fits : {A : Type 0} (P : A → Type 0) (xs : List A) (place : ℕ) → FirstNot P xs place → place < length xs
place_fits P xs place h = slice_get_within xs place h.entry h.stands
