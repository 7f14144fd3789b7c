-- Streams read from the front, and the one judgement on them.
use Rattle.std.proofs.Common.{◌≡◌, ◌≢◌, ℕ, ◌+◌, ◌≤◌, ◌⊎◌, inl, inr, List, [], ◌∷◌, ◌++◌, append_assoc, length, sym, ap, subst, ◌∙◌, refl, arith, length-append}
use Rattle.std.specs.List.{AllByRecursion}
use Rattle.std.proofs.lemmas.List.{append-nil}
use Rattle.upload_stream.specs.Entries.{BeginsNone, BeginsWith}
use Rattle.upload_stream.specs.Streams.{AreEntries, HasEntryForm, IsFirstBad, NeverFall, Upload, UploadList, entry_bytes, stream_bytes}
use Rattle.upload_stream.proofs.Entries.{begins_one, entry_length}

pub none_left : (bytes : List ℕ) → length bytes ≤ 0 → bytes ≡ []
none_left [] none = refl
none_left (byte ∷ bytes) none = absurd (omega arith)

-- The bytes begin with these entries, whose ticks do not fall from this one on and end at the last, and go on with the rest.
abbrev pub LeadsTo : ℕ → List ℕ → List Upload → ℕ → List ℕ → Type 0
LeadsTo least bytes [] last rest = (last ≡ least) × (rest ≡ bytes)
LeadsTo least bytes (upload ∷ later) last rest = (behind : List ℕ) × BeginsWith least bytes upload behind × LeadsTo upload.tick behind later last rest

pub leads_more : (least : ℕ) (bytes : List ℕ) (uploads : List Upload) (last : ℕ) (rest : List ℕ) (next : Upload) (behind : List ℕ) → LeadsTo least bytes uploads last rest → BeginsWith last rest next behind → LeadsTo least bytes (uploads ++ next ∷ []) next.tick behind
leads_more least bytes [] last rest next behind leads begins =
    let P : ℕ → Type 0 = λ n. BeginsWith n bytes next behind in
    let Q : List ℕ → Type 0 = λ z. BeginsWith last z next behind in
    (behind, subst P leads.0 (subst Q leads.1 begins), (refl, refl))
leads_more least bytes (upload ∷ later) last rest next behind leads begins =
    (leads.0, leads.1, leads_more upload.tick leads.0 later last rest next behind leads.2 begins)

-- ---- lists of entries

all_end : {A : Type 0} (P : A → Type 0) (xs : List A) (x : A) → AllByRecursion P (xs ++ x ∷ []) → P x
all_end P [] x all = all.0
all_end P (y ∷ xs) x all = all_end P xs x all.1

all_front : {A : Type 0} (P : A → Type 0) (xs : List A) (x : A) (more : List A) → AllByRecursion P (xs ++ x ∷ more) → AllByRecursion P (xs ++ x ∷ [])
all_front P [] x more all = (all.0, tt)
all_front P (y ∷ xs) x more all = (all.0, all_front P xs x more all.1)

order_front : (good : List Upload) (next : Upload) (more : List Upload) → NeverFall (good ++ next ∷ more) → NeverFall (good ++ next ∷ [])
order_front [] next more order = (tt, tt)
order_front (upload ∷ good) next more order = (all_front (λ other. upload.tick ≤ other.tick) good next more order.0, order_front good next more order.1)

-- the front of entries are entries
entries_front : (good : List Upload) (next : Upload) (more : List Upload) → AreEntries (good ++ next ∷ more) → AreEntries (good ++ next ∷ [])
entries_front good next more entries = record { forms = all_front HasEntryForm good next more entries.forms; order = order_front good next more entries.order }

-- ---- what was read

leads_above : (least : ℕ) (bytes : List ℕ) (uploads : List Upload) (last : ℕ) (rest : List ℕ) → LeadsTo least bytes uploads last rest → (low : ℕ) → low ≤ least → AllByRecursion (λ other. low ≤ other.tick) uploads
leads_above least bytes [] last rest leads low below = tt
leads_above least bytes (upload ∷ later) last rest leads low below =
    (omega (arith, below, leads.1.order), leads_above upload.tick leads.0 later last rest leads.2 low (omega (arith, below, leads.1.order)))

leads_forms : (least : ℕ) (bytes : List ℕ) (uploads : List Upload) (last : ℕ) (rest : List ℕ) → LeadsTo least bytes uploads last rest → AllByRecursion HasEntryForm uploads
leads_forms least bytes [] last rest leads = tt
leads_forms least bytes (upload ∷ later) last rest leads = (leads.1.form, leads_forms upload.tick leads.0 later last rest leads.2)

leads_order : (least : ℕ) (bytes : List ℕ) (uploads : List Upload) (last : ℕ) (rest : List ℕ) → LeadsTo least bytes uploads last rest → NeverFall uploads
leads_order least bytes [] last rest leads = tt
leads_order least bytes (upload ∷ later) last rest leads =
    (leads_above upload.tick leads.0 later last rest leads.2 upload.tick (omega arith), leads_order upload.tick leads.0 later last rest leads.2)

leads_entries : (least : ℕ) (bytes : List ℕ) (uploads : List Upload) (last : ℕ) (rest : List ℕ) → LeadsTo least bytes uploads last rest → AreEntries uploads
leads_entries least bytes uploads last rest leads =
    record { forms = leads_forms least bytes uploads last rest leads; order = leads_order least bytes uploads last rest leads }

leads_spells : (least : ℕ) (bytes : List ℕ) (uploads : List Upload) (last : ℕ) (rest : List ℕ) → LeadsTo least bytes uploads last rest → bytes ≡ stream_bytes uploads ++ rest
leads_spells least bytes [] last rest leads = sym leads.1
leads_spells least bytes (upload ∷ later) last rest leads =
    leads.1.spells ∙ (ap (λ z. entry_bytes upload ++ z) (leads_spells upload.tick leads.0 later last rest leads.2) ∙ sym (append_assoc (entry_bytes upload) (stream_bytes later) rest))

-- An entry that may come next is not earlier than the last.
leads_last : (least : ℕ) (bytes : List ℕ) (uploads : List Upload) (last : ℕ) (rest : List ℕ) → LeadsTo least bytes uploads last rest → (next : Upload) → least ≤ next.tick → NeverFall (uploads ++ next ∷ []) → last ≤ next.tick
leads_last least bytes [] last rest leads next above order = let same = leads.0 in omega (arith, same, above)
leads_last least bytes (upload ∷ later) last rest leads next above order =
    leads_last upload.tick leads.0 later last rest leads.2 next (all_end (λ other. upload.tick ≤ other.tick) later next order.0) order.1

pub leads_end : (bytes : List ℕ) (uploads : List Upload) (last : ℕ) (rest : List ℕ) → LeadsTo 0 bytes uploads last rest → rest ≡ [] → UploadList bytes uploads
leads_end bytes uploads last rest leads none = record {
  entries = leads_entries 0 bytes uploads last rest leads;
  spells = leads_spells 0 bytes uploads last rest leads ∙ (ap (λ z. stream_bytes uploads ++ z) none ∙ append-nil (stream_bytes uploads));
}

-- the place at which the entry behind these is bad
pub leads_first_bad : (bytes : List ℕ) (uploads : List Upload) (last : ℕ) (rest : List ℕ) (at : ℕ) → LeadsTo 0 bytes uploads last rest → at + length rest ≡ length bytes → rest ≢ [] → BeginsNone last rest → IsFirstBad bytes at
leads_first_bad bytes uploads last rest at leads place some none =
    let spells = leads_spells 0 bytes uploads last rest leads in
    record {
      good = uploads;
      rest = rest;
      entries = leads_entries 0 bytes uploads last rest leads;
      spells = spells;
      place = omega (arith, place, ap length spells, length-append (stream_bytes uploads) rest);
      left = some;
      bad = λ next behind entries is. none next behind (record {
        form = all_end HasEntryForm uploads next entries.forms;
        order = leads_last 0 bytes uploads last rest leads next (omega arith) entries.order;
        spells = is;
      });
    }

-- ---- one judgement

-- The one list is a front of the other, whose bytes go on so.
abbrev IsFront : List Upload → List ℕ → List Upload → List ℕ → Type 0
IsFront short rest long left = (later : List Upload) × (long ≡ short ++ later) × (rest ≡ stream_bytes later ++ left)

front_more : (u v : Upload) (short : List Upload) (rest : List ℕ) (long : List Upload) (left : List ℕ) → u ≡ v → IsFront short rest long left → IsFront (u ∷ short) rest (v ∷ long) left
front_more u v short rest long left same front = (front.0, (let longer = front.1 in λ i. sym same i ∷ longer i), front.2)

-- Of two lists of entries at the front of the same bytes one is a front of the other.
fronts : (one other : List Upload) (r s : List ℕ) → AllByRecursion HasEntryForm one → AllByRecursion HasEntryForm other → stream_bytes one ++ r ≡ stream_bytes other ++ s → IsFront one r other s ⊎ IsFront other s one r
fronts [] other r s p q same = inl (other, refl, same)
fronts (u ∷ one) [] r s p q same = inr (u ∷ one, refl, sym same)
fronts (u ∷ one) (v ∷ other) r s p q same =
    let bytes = stream_bytes (u ∷ one) ++ r in
    let first : BeginsWith 0 bytes u (stream_bytes one ++ r) = record { form = p.0; order = omega arith; spells = append_assoc (entry_bytes u) (stream_bytes one) r } in
    let second : BeginsWith 0 bytes v (stream_bytes other ++ s) = record { form = q.0; order = omega arith; spells = same ∙ append_assoc (entry_bytes v) (stream_bytes other) s } in
    let begins = begins_one 0 0 bytes u v (stream_bytes one ++ r) (stream_bytes other ++ s) first second in
    elim (fronts one other r s p.1 q.1 begins.1) [
      | inl front ↦ inl (front_more u v one r other s begins.0 front)
      | inr front ↦ inr (front_more v u other s one r (sym begins.0) front)
    ]

-- Nothing is left in front of nothing.
nothing : (later : List Upload) (left : List ℕ) → [] ≡ stream_bytes later ++ left → later ≡ []
nothing [] left is = refl
nothing (next ∷ more) left is = absurd (
    let whole = length-append (entry_bytes next ++ stream_bytes more) left in
    let first = length-append (entry_bytes next) (stream_bytes more) in
    omega (arith, ap length is, whole, first, entry_length next))

-- Behind good entries in front of a bad one none comes.
none_behind : (bytes : List ℕ) (at : ℕ) (bad : IsFirstBad bytes at) (later long : List Upload) (left : List ℕ) → AreEntries long → long ≡ bad.good ++ later → bad.rest ≡ stream_bytes later ++ left → later ≡ []
none_behind bytes at bad [] long left entries longer rest = refl
none_behind bytes at bad (next ∷ more) long left entries longer rest =
    absurd (bad.bad next (stream_bytes more ++ left) (entries_front bad.good next more (subst AreEntries longer entries)) (rest ∙ append_assoc (entry_bytes next) (stream_bytes more) left))

same_good : (bytes : List ℕ) (at : ℕ) (bad : IsFirstBad bytes at) (other : List Upload) (left : List ℕ) → AreEntries other → IsFront bad.good bad.rest other left → other ≡ bad.good
same_good bytes at bad other left entries front =
    front.1 ∙ (ap (λ later. bad.good ++ later) (none_behind bytes at bad front.0 other left entries front.1 front.2) ∙ append-nil bad.good)

pub uploads_one : (bytes : List ℕ) (one other : List Upload) → UploadList bytes one → UploadList bytes other → one ≡ other
uploads_one bytes one other p q =
    let same = append-nil (stream_bytes one) ∙ (sym p.spells ∙ (q.spells ∙ sym (append-nil (stream_bytes other)))) in
    elim (fronts one other [] [] p.entries.forms q.entries.forms same) [
      | inl front ↦ sym (front.1 ∙ (ap (λ later. one ++ later) (nothing front.0 [] front.2) ∙ append-nil one))
      | inr front ↦ front.1 ∙ (ap (λ later. other ++ later) (nothing front.0 [] front.2) ∙ append-nil other)
    ]

pub not_both : (bytes : List ℕ) (uploads : List Upload) (at : ℕ) → UploadList bytes uploads → IsFirstBad bytes at → ⊥
not_both bytes uploads at list bad =
    elim (fronts bad.good uploads bad.rest [] bad.entries.forms list.entries.forms (sym bad.spells ∙ (list.spells ∙ sym (append-nil (stream_bytes uploads))))) [
      | inl front ↦ bad.left (front.2 ∙ ap (λ later. stream_bytes later ++ []) (none_behind bytes at bad front.0 uploads [] list.entries front.1 front.2))
      | inr front ↦ bad.left (none_left bad.rest (let whole = length-append (stream_bytes front.0) bad.rest in omega (arith, ap length front.2, whole)))
    ]

pub first_one : (bytes : List ℕ) (at other : ℕ) → IsFirstBad bytes at → IsFirstBad bytes other → at ≡ other
first_one bytes at other p q =
    elim (fronts p.good q.good p.rest q.rest p.entries.forms q.entries.forms (sym p.spells ∙ q.spells)) [
      | inl front ↦ p.place ∙ (ap (λ good. length (stream_bytes good)) (sym (same_good bytes at p q.good q.rest q.entries front)) ∙ sym q.place)
      | inr front ↦ p.place ∙ (ap (λ good. length (stream_bytes good)) (same_good bytes other q p.good p.rest p.entries front) ∙ sym q.place)
    ]
