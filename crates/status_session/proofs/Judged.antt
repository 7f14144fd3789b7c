-- What the bytes of a request determine.
use Rattle.std.proofs.Common.{◌≡◌, ◌⊎◌, ℕ, suc, ◌<◌, Bool, true, false, List, [], ◌∷◌, ◌++◌, length, drop, get_or, ap, sym, refl, ◌∙◌, subst, inl, inr, arith, codes, append_assoc}
use Rattle.std.specs.Prelude.{⊤}
use Rattle.world_hub.specs.declared.queue.Upload.{Upload as Sent}
use Rattle.world_hub.specs.declared.status.Shown.{Shown}
use Rattle.status_session.specs.Words.{words, value, HasNoFeed}
use Rattle.status_session.specs.Asked.{Spells, IsNoRequest}
use Rattle.status_session.specs.Replies.{bad, bye}
use Rattle.status_session.specs.Session.{IsLine, Offers, AsksLine, Answers, tells_status, tells_player, has_no_line, is_not_listed, offers_for_nobody, offers_by_another, is_queued, finds_full}
use Rattle.status_session.specs.Session.{IsBad, is_no_request, is_too_long, is_cut, is_cut_short, Lasts, quits, fails, ends}
use Rattle.status_session.specs.declared.asked.Offered.{Offered}
use Rattle.status_session.specs.declared.asked.Asked.{Asked}
use Rattle.status_session.specs.declared.asked.Asked.TheVariants.{Status, Player, Upload, Quit}
use Rattle.status_session.specs.declared.session.SessionEnd.{SessionEnd}
use Rattle.status_session.specs.declared.session.SessionEnd.TheVariants.{Quit as Quits, Ended, BadRequest}

-- ---- lines

-- a line and what stands behind it are determined by their bytes
same_line : (l m a b : List ℕ) → HasNoFeed l → HasNoFeed m → l ++ 10 ∷ a ≡ m ++ 10 ∷ b → (l ≡ m) × (a ≡ b)
same_line [] [] a b free none e = (refl, ap (λ t. drop 1 t) e)
same_line [] (y ∷ m) a b free none e = absurd (none 0 (omega arith) (ap (λ t. get_or t 0 0) (sym e)))
same_line (x ∷ l) [] a b free none e = absurd (free 0 (omega arith) (ap (λ t. get_or t 0 0) e))
same_line (x ∷ l) (y ∷ m) a b free none e =
    let rest = same_line l m a b (λ k lt. free (suc k) (omega (arith, lt))) (λ k lt. none (suc k) (omega (arith, lt))) (ap (λ t. drop 1 t) e) in
    let first : x ≡ y = ap (λ t. get_or t 0 0) e in
    (ap (λ t. x ∷ t) rest.0 ∙ ap (λ (z : ℕ). z ∷ m) first, rest.1)

-- bytes without a line feed begin with no line
no_line : (h l a : List ℕ) → HasNoFeed h → h ≡ l ++ 10 ∷ a → ⊥
no_line [] [] a none e = let n = ap length e in absurd (omega (arith, n))
no_line [] (y ∷ l) a none e = let n = ap length e in absurd (omega (arith, n))
no_line (x ∷ h) [] a none e = none 0 (omega arith) (ap (λ t. get_or t 0 0) e)
no_line (x ∷ h) (y ∷ l) a none e = no_line h l a (λ k lt. none (suc k) (omega (arith, lt))) (ap (λ t. drop 1 t) e)

empty_line : (h l a : List ℕ) → h ≡ [] → h ≡ l ++ 10 ∷ a → ⊥
empty_line h l a none e = no_line [] l a (λ k lt. absurd (omega (arith, lt))) (sym none ∙ e)

-- ---- whole requests

abbrev Follows : Asked → List ℕ → Type 0
Follows Status rest = rest ≡ []
Follows (Player digits) rest = rest ≡ []
Follows (Upload offered) rest = length rest ≡ offered.size
Follows Quit rest = rest ≡ []

-- The bytes are a line that asks this, and what has to stand behind it.
record IsWhole (heard : List ℕ) (asked : Asked) : Type 0 where
  line : List ℕ
  rest : List ℕ
  is : heard ≡ line ++ 10 ∷ rest
  none : HasNoFeed line
  asks : Spells (words line) asked
  follows : Follows asked rest

abbrev GoesOn : Asked → Type 0
GoesOn Status = ⊤
GoesOn (Player digits) = ⊤
GoesOn (Upload offered) = ⊤
GoesOn Quit = ⊥

whole_line : (line heard : List ℕ) (asked : Asked) → IsLine line heard → Spells (words line) asked → Follows asked [] → IsWhole heard asked
whole_line line heard asked l asks follows = record { line = line; rest = []; is = l.is; none = l.whole; asks = asks; follows = follows }

whole_upload : (o : Offered) (heard bytes : List ℕ) → Offers o heard bytes → IsWhole (heard ++ bytes) (Upload o)
whole_upload o heard bytes f = record {
  line = f.line;
  rest = bytes;
  is = ap (λ (l : List ℕ). l ++ bytes) f.is_line.is ∙ append_assoc f.line (10 ∷ []) bytes;
  none = f.is_line.whole;
  asks = f.asks;
  follows = f.size;
}

abbrev player : List ℕ → Asked
player digits = Player (record { ref_ptr = (0, 0); now = digits })

whole_player : (digits heard : List ℕ) → AsksLine digits heard → IsWhole heard (player digits)
whole_player digits heard a = whole_line a.line heard (player digits) a.is_line (a.asks, a.number) refl

answered : {tokens : List (ℕ × List ℕ)} {heard : List ℕ} {reads : List Shown} {offers : List Sent} {fulls : ℕ} {said : List ℕ} → Answers tokens heard reads offers fulls said
    → (asked : Asked) × GoesOn asked × IsWhole heard asked
answered (tells_status line heard l s read) = (Status, tt, whole_line line heard Status l s refl)
answered (tells_player digits heard a entry listed read line there its) = (player digits, tt, whole_player digits heard a)
answered (has_no_line digits heard a entry listed read none) = (player digits, tt, whole_player digits heard a)
answered (is_not_listed digits heard a stranger) = (player digits, tt, whole_player digits heard a)
answered (offers_for_nobody o heard bytes f stranger) = (Upload o, tt, whole_upload o heard bytes f)
answered (offers_by_another o heard bytes f entry listed other) = (Upload o, tt, whole_upload o heard bytes f)
answered (is_queued o heard sent f entry listed same by) = (Upload o, tt, whole_upload o heard sent.bytes.items f)
answered (finds_full o heard bytes f entry listed same) = (Upload o, tt, whole_upload o heard bytes f)

not_quit : (ws : List (List ℕ)) (asked : Asked) → GoesOn asked → Spells ws asked → Spells ws Quit → ⊥
not_quit ws Status goes s q = let n : 6 ≡ 4 = ap (λ l. length (get_or l 0 [])) (sym s ∙ q) in absurd (omega (arith, n))
not_quit ws (Player digits) goes s q = let n = ap length (sym s.0 ∙ q) in absurd (omega (arith, n))
not_quit ws (Upload o) goes s q = let n = ap length (sym q ∙ s.1 ∙ ap (λ l. codes "UPLOAD" ∷ l) s.2.1) in absurd (omega (arith, n))
not_quit ws Quit goes s q = absurd goes

-- Where the words offer an upload, what follows is as long as they say.
sized : (ws : List (List ℕ)) (asked : Asked) (o : Offered) (rest : List ℕ) → Spells ws (Upload o) → Spells ws asked → Follows asked rest → length rest ≡ o.size
sized ws Status o rest u s f = let n = ap length (sym s ∙ u.1 ∙ ap (λ l. codes "UPLOAD" ∷ l) u.2.1) in absurd (omega (arith, n))
sized ws (Player digits) o rest u s f = let n = ap length (sym s.0 ∙ u.1 ∙ ap (λ l. codes "UPLOAD" ∷ l) u.2.1) in absurd (omega (arith, n))
sized ws (Upload p) o rest u s f =
    let same = ap (λ l. drop 1 l) (sym s.1 ∙ u.1) in let word = ap (λ l. get_or l 2 []) (sym s.2.1 ∙ same ∙ u.2.1) in
    f ∙ sym s.2.4.is ∙ ap value word ∙ u.2.4.is
sized ws Quit o rest u s f = let n = ap length (sym s ∙ u.1 ∙ ap (λ l. codes "UPLOAD" ∷ l) u.2.1) in absurd (omega (arith, n))

-- ---- bad requests

record IsShortUpload (heard : List ℕ) : Type 0 where
  line : List ℕ
  rest : List ℕ
  offered : Offered
  is : heard ≡ line ++ 10 ∷ rest
  none : HasNoFeed line
  asks : Spells (words line) (Upload offered)
  fewer : length rest < offered.size

abbrev Bad : Bool → List ℕ → Type 0
Bad true heard = (HasNoFeed heard × (0 < length heard) × (length heard < 200)) ⊎ IsShortUpload heard
Bad false heard = (HasNoFeed heard × (length heard ≡ 200)) ⊎ ((line : List ℕ) × (heard ≡ line ++ 10 ∷ []) × HasNoFeed line × IsNoRequest line)

is_bad : {cut : Bool} {heard : List ℕ} → IsBad cut heard → Bad cut heard
is_bad (is_no_request line heard l none) = inr (line, l.is, l.whole, none)
is_bad (is_too_long heard none long) = inl (none, long)
is_bad (is_cut heard none some short) = inl (none, some, short)
is_bad (is_cut_short line heard bytes o l asks fewer) = inr (record {
  line = line;
  rest = bytes;
  offered = o;
  is = ap (λ (t : List ℕ). t ++ bytes) l.is ∙ append_assoc line (10 ∷ []) bytes;
  none = l.whole;
  asks = asks;
  fewer = fewer;
})

bad_or_whole : (cut : Bool) (heard : List ℕ) (asked : Asked) → Bad cut heard → IsWhole heard asked → ⊥
bad_or_whole true heard asked (inl b) w = no_line heard w.line w.rest b.0 w.is
bad_or_whole true heard asked (inr b) w =
    let same = same_line b.line w.line b.rest w.rest b.none w.none (sym b.is ∙ w.is) in
    let long = sized (words w.line) asked b.offered w.rest (subst (λ (l : List ℕ). Spells (words l) (Upload b.offered)) same.0 b.asks) w.asks w.follows in
    let fewer = b.fewer in let equal = ap length same.1 in absurd (omega (arith, fewer, long, equal))
bad_or_whole false heard asked (inl b) w = no_line heard w.line w.rest b.0 w.is
bad_or_whole false heard asked (inr b) w =
    let same = same_line b.0 w.line [] w.rest b.2 w.none (sym b.1 ∙ w.is) in b.3 asked (subst (λ (l : List ℕ). Spells (words l) asked) (sym same.0) w.asks)

bad_not_empty : (cut : Bool) (heard : List ℕ) → Bad cut heard → heard ≡ [] → ⊥
bad_not_empty true heard (inl b) none = let n = ap length none in absurd (omega (arith, n, b.1))
bad_not_empty true heard (inr b) none = empty_line heard b.line b.rest none b.is
bad_not_empty false heard (inl b) none = let n = ap length none in absurd (omega (arith, n, b.1))
bad_not_empty false heard (inr b) none = empty_line heard b.0 [] none b.1

one_of_both : (heard : List ℕ) → Bad true heard → Bad false heard → ⊥
one_of_both heard (inl a) (inl b) = absurd (omega (arith, a.2, b.1))
one_of_both heard (inl a) (inr b) = no_line heard b.0 [] a.0 b.1
one_of_both heard (inr a) (inl b) = no_line heard a.line a.rest b.0 a.is
one_of_both heard (inr a) (inr b) =
    let same = same_line a.line b.0 a.rest [] a.none b.2 (sym a.is ∙ b.1) in b.3 (Upload a.offered) (subst (λ (l : List ℕ). Spells (words l) (Upload a.offered)) same.0 a.asks)

pub cut_or_not : (heard : List ℕ) → IsBad true heard → IsBad false heard → ⊥
cut_or_not heard a b = one_of_both heard (is_bad a) (is_bad b)

-- ---- last requests

abbrev Ends : List ℕ → List ℕ → SessionEnd → Type 0
Ends heard said end = (IsWhole heard Quit × (said ≡ bye) × (end ≡ Quits)) ⊎ (((cut : Bool) × Bad cut heard × (said ≡ bad) × (end ≡ BadRequest)) ⊎ ((heard ≡ []) × (said ≡ []) × (end ≡ Ended)))

is_last : {heard said : List ℕ} {end : SessionEnd} → Lasts heard said end → Ends heard said end
is_last (quits line heard l asks) = inl (whole_line line heard Quit l asks refl, refl, refl)
is_last (fails cut heard b) = inr (inl (cut, is_bad b, refl, refl))
is_last ends = inr (inr (refl, refl, refl))

not_both : (heard said : List ℕ) (end : SessionEnd) (asked : Asked) → GoesOn asked → IsWhole heard asked → Ends heard said end → ⊥
not_both heard said end asked goes w (inl q) = let quit = q.0 in let same = same_line quit.line w.line quit.rest w.rest quit.none w.none (sym quit.is ∙ w.is) in
    not_quit (words w.line) asked goes w.asks (subst (λ (l : List ℕ). Spells (words l) Quit) same.0 quit.asks)
not_both heard said end asked goes w (inr (inl b)) = bad_or_whole b.0 heard asked b.1 w
not_both heard said end asked goes w (inr (inr n)) = empty_line heard w.line w.rest n.0 w.is

pub goes_on_or_ends : (tokens : List (ℕ × List ℕ)) (heard : List ℕ) (reads : List Shown) (offers : List Sent) (fulls : ℕ) (said last : List ℕ) (end : SessionEnd)
    → Answers tokens heard reads offers fulls said → Lasts heard last end → ⊥
goes_on_or_ends tokens heard reads offers fulls said last end a l = let seen = answered a in not_both heard last end seen.0 seen.1 seen.2 (is_last l)

same_end : (heard said other : List ℕ) (end last : SessionEnd) → Ends heard said end → Ends heard other last → (said ≡ other) × (end ≡ last)
same_end heard said other end last (inl a) (inl b) = (a.1 ∙ sym b.1, a.2 ∙ sym b.2)
same_end heard said other end last (inl a) (inr (inl b)) = absurd (bad_or_whole b.0 heard Quit b.1 a.0)
same_end heard said other end last (inl a) (inr (inr b)) = let quit = a.0 in absurd (empty_line heard quit.line quit.rest b.0 quit.is)
same_end heard said other end last (inr (inl a)) (inl b) = absurd (bad_or_whole a.0 heard Quit a.1 b.0)
same_end heard said other end last (inr (inl a)) (inr (inl b)) = (a.2 ∙ sym b.2, a.3 ∙ sym b.3)
same_end heard said other end last (inr (inl a)) (inr (inr b)) = absurd (bad_not_empty a.0 heard a.1 b.0)
same_end heard said other end last (inr (inr a)) (inl b) = let quit = b.0 in absurd (empty_line heard quit.line quit.rest a.0 quit.is)
same_end heard said other end last (inr (inr a)) (inr (inl b)) = absurd (bad_not_empty b.0 heard b.1 a.0)
same_end heard said other end last (inr (inr a)) (inr (inr b)) = (a.1 ∙ sym b.1, a.2 ∙ sym b.2)

pub ends_once : (heard said other : List ℕ) (end last : SessionEnd) → Lasts heard said end → Lasts heard other last → (said ≡ other) × (end ≡ last)
ends_once heard said other end last a b = same_end heard said other end last (is_last a) (is_last b)
