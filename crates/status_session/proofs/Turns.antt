-- What a turn comes to, from what its calls say.
use Rattle.std.proofs.Common.{◌≡◌, ◌≢◌, ◌⊎◌, ℕ, ◌^◌, ◌<◌, Bool, true, List, [], ◌∷◌, ◌++◌, Option, Some, None, Result, Ok, Err, All, Contains, sym, refl, subst, inl, inr, arith}
use Rattle.std.proofs.lemmas.List.{append-nil}
use Rattle.std.proofs.lemmas.Grind.{common_steps}
use Rattle.std.specs.Io.KnownBytes.{Consumes, Appends, IsAtEnd}
use Rattle.world_io.specs.Told.{AppendsPrefix}
use Rattle.world_hub.specs.declared.queue.Upload.{Upload as Sent}
use Rattle.world_hub.specs.declared.hub.Pass.{Pass}
use Rattle.world_hub.specs.declared.status.Shown.{Shown}
use Rattle.world_hub.specs.declared.summary.PlayerLine.{PlayerLine}
use Rattle.status_session.specs.declared.asked.Offered.{Offered}
use Rattle.status_session.specs.declared.asked.Asked.TheVariants.{Status, Quit as Quits}
use Rattle.status_session.specs.declared.session.SessionEnd.{SessionEnd}
use Rattle.status_session.specs.declared.session.SessionEnd.TheVariants.{Quit, Ended, LinkFault, BadRequest}
use Rattle.status_session.specs.declared.answers.Stop.{Stop}
use Rattle.status_session.specs.declared.answers.Stop.TheVariants.{Fault, Memory as NoRoom}
use Rattle.status_session.specs.declared.turn.Turn.{Turn}
use Rattle.status_session.specs.declared.turn.Turn.TheVariants.{Over}
use Rattle.status_session.specs.Words.{words}
use Rattle.status_session.specs.inner.Hearing.{IsShort}
use Rattle.status_session.specs.Asked.{Spells}
use Rattle.status_session.specs.Replies.{status_reply, line_reply, unknown_player, wrong_token, queued, full, bad, bye}
use Rattle.status_session.specs.Session.{Answers, Lasts, IsBad, IsPart, stops, answers, lasts, IsLine, IsListed, IsStranger, Offers, AsksLine, tells_status, tells_player, has_no_line, is_not_listed, offers_for_nobody, offers_by_another, is_queued, finds_full, quits, fails, ends}
use Rattle.status_session.specs.Served.{Grew}
use Rattle.status_session.specs.inner.Told.{SaidBy, Told, StatusTold, LineTold, UploadTold}
use Rattle.world_hub.specs.Summary.{lines_of, IsOf}
use Rattle.world_hub.specs.Hub.{hand}
use Rattle.status_session.specs.inner.Turned.{LastSaid, Torn, Turned, turn_of, TurnCounted}
use Rattle.status_session.proofs.Growing.{nothing_said, still}

pub is_line : (line : List ℕ) → IsShort line → IsLine line (line ++ 10 ∷ [])
is_line line short = record {
  is = refl;
  whole = short.0;
  short = let few = short.1 in grind (arith, common_steps, few);
}

-- what a call kept
pub hears : (before a b : Option (List ℕ)) (l : List ℕ) → b ≡ a → Consumes before a l → Consumes before b l
hears before a b l same h = subst (λ (x : Option (List ℕ)). Consumes before x l) (sym same) h

pub still_at_end : (a b : Option (List ℕ)) → b ≡ a → IsAtEnd a → IsAtEnd b
still_at_end a b same h = subst (λ (x : Option (List ℕ)). IsAtEnd x) (sym same) h

pub last_from : (a b q : Option (List ℕ)) (said : List ℕ) (end : SessionEnd) (t : Turn) → b ≡ a → LastSaid b q said end t → LastSaid a q said end t
last_from a b q said end t same h = subst (λ (x : Option (List ℕ)). LastSaid x q said end t) same h

appends_none : (a : Option (List ℕ)) → Appends a a []
appends_none None = tt
appends_none (Some xs) = sym (append-nil xs)

pub no_more : (p q : Option (List ℕ)) → q ≡ p → Appends p q []
no_more p q same = subst (λ (x : Option (List ℕ)). Appends p x []) (sym same) (appends_none p)

pub no_part : (p q : Option (List ℕ)) → q ≡ p → AppendsPrefix p q []
no_part p q same = subst (λ (x : Option (List ℕ)). AppendsPrefix p x []) (sym same) (nothing_said p [])

counted_by : {T : Type 0} (r s w x : ℕ) (result : Result T Stop) → s ≡ r → Told w x result → TurnCounted r s w x (turn_of result)
counted_by r s w x (Ok u) same k = (same, k)
counted_by r s w x (Err Fault) same k = inr (k refl)
counted_by r s w x (Err NoRoom) same k = tt

-- the counts, from what a reply says
pub counted : {T : Type 0} (r s w x : ℕ) (t : Turn) (result : Result T Stop) → t ≡ turn_of result → s ≡ r → Told w x result → TurnCounted r s w x t
counted r s w x t result is same told = subst (λ (u : Turn). TurnCounted r s w x u) (sym is) (counted_by r s w x result same told)

module _ (tokens : List (ℕ × List ℕ)) (i j p q : Option (List ℕ)) (v w : Pass) where
  torn : (heard : List ℕ) (reads : List Shown) (offers : List Sent) (fulls : ℕ) (said : List ℕ) → Answers tokens heard reads offers fulls said
      → Consumes i j heard → Grew v w reads offers fulls → AppendsPrefix p q said → Torn tokens i j p q v w
  torn heard reads offers fulls said ans consumed grew s = record {
    heard = heard;
    reads = reads;
    offers = offers;
    fulls = fulls;
    said = said;
    step = answers heard reads offers fulls said ans;
    consumed = consumed;
    appended = s;
    grew = grew;
  }

  once_by : {T : Type 0} (heard : List ℕ) (reads : List Shown) (offers : List Sent) (fulls : ℕ) (said : List ℕ) → Answers tokens heard reads offers fulls said
      → Consumes i j heard → Grew v w reads offers fulls → (result : Result T Stop) → SaidBy p q said result → Turned tokens i j p q v w (turn_of result)
  once_by heard reads offers fulls said ans consumed grew (Ok u) s = record {
    heard = heard;
    reads = reads;
    offers = offers;
    fulls = fulls;
    said = said;
    answers = ans;
    consumed = consumed;
    appended = s;
    grew = grew;
  }
  once_by heard reads offers fulls said ans consumed grew (Err Fault) s = torn heard reads offers fulls said ans consumed grew s
  once_by heard reads offers fulls said ans consumed grew (Err NoRoom) s = torn heard reads offers fulls said ans consumed grew s

  -- a request was heard, and its reply written, or a part of it
  pub once : {T : Type 0} (heard : List ℕ) (reads : List Shown) (offers : List Sent) (fulls : ℕ) (said : List ℕ) → Answers tokens heard reads offers fulls said
      → Consumes i j heard → Grew v w reads offers fulls → (t : Turn) (result : Result T Stop) → t ≡ turn_of result → SaidBy p q said result → Turned tokens i j p q v w t
  once heard reads offers fulls said ans consumed grew t result is s = subst (λ (u : Turn). Turned tokens i j p q v w u) (sym is) (once_by heard reads offers fulls said ans consumed grew result s)

  -- nothing was answered
  pub nothing : (part : List ℕ) → IsPart part → Consumes i j part → Grew v w [] [] 0 → AppendsPrefix p q [] → Torn tokens i j p q v w
  nothing part is consumed grew s = record {
    heard = part;
    reads = [];
    offers = [];
    fulls = 0;
    said = [];
    step = stops part is;
    consumed = consumed;
    appended = s;
    grew = grew;
  }

  -- the last reply was not written whole
  pub last_torn : (heard said : List ℕ) (end : SessionEnd) → Lasts heard said end → Consumes i j heard → Grew v w [] [] 0 → AppendsPrefix p q said → Torn tokens i j p q v w
  last_torn heard said end last consumed grew s = record {
    heard = heard;
    reads = [];
    offers = [];
    fulls = 0;
    said = said;
    step = lasts heard said end last;
    consumed = consumed;
    appended = s;
    grew = grew;
  }

  pub status_turn : {T : Type 0} (line : List ℕ) (t : Turn) (result : Result T Stop) → t ≡ turn_of result → IsShort line → Spells (words line) Status
      → Consumes i j (line ++ 10 ∷ []) → StatusTold p q v w result → Turned tokens i j p q v w t
  status_turn line t result is short asked consumed told =
      once (line ++ 10 ∷ []) (told.shown ∷ []) [] 0 (status_reply told.shown.summary) (tells_status line (line ++ 10 ∷ []) (is_line line short) asked told.shown) consumed told.grew t result is told.said

  -- the player stands in the tokens
  pub player_turn : {T : Type 0} (line n : List ℕ) (entry : ℕ × List ℕ) (t : Turn) (result : Result T Stop) → t ≡ turn_of result → AsksLine n (line ++ 10 ∷ []) → IsListed tokens n entry
      → Consumes i j (line ++ 10 ∷ []) → LineTold entry.0 p q v w result → Turned tokens i j p q v w t
  player_turn line n entry t result is asks listed consumed told = line_cases told.said where
    line_cases : ((l : PlayerLine) × Contains (lines_of told.shown.summary) l × IsOf entry.0 l × SaidBy p q (line_reply l) result)
        ⊎ (All (λ l. ¬ IsOf entry.0 l) (lines_of told.shown.summary) × SaidBy p q unknown_player result) → Turned tokens i j p q v w t
    line_cases (inl (l, has, its, s)) = once (line ++ 10 ∷ []) (told.shown ∷ []) [] 0 (line_reply l)
        (tells_player n (line ++ 10 ∷ []) asks entry listed told.shown l has its) consumed told.grew t result is s
    line_cases (inr (all, s)) = once (line ++ 10 ∷ []) (told.shown ∷ []) [] 0 unknown_player
        (has_no_line n (line ++ 10 ∷ []) asks entry listed told.shown all) consumed told.grew t result is s

  -- the player does not stand in the tokens
  pub stranger_turn : {T : Type 0} (line n : List ℕ) (t : Turn) (result : Result T Stop) → t ≡ turn_of result → AsksLine n (line ++ 10 ∷ []) → IsStranger tokens n
      → Consumes i j (line ++ 10 ∷ []) → Grew v w [] [] 0 → SaidBy p q unknown_player result → Turned tokens i j p q v w t
  stranger_turn line n t result is asks nobody consumed grew s =
      once (line ++ 10 ∷ []) [] [] 0 unknown_player (is_not_listed n (line ++ 10 ∷ []) asks nobody) consumed grew t result is s

  module _ (line bytes : List ℕ) (o : Offered) (t : Turn) (offers : Offers o (line ++ 10 ∷ []) bytes) where
    pub nobody_turn : {T : Type 0} (result : Result T Stop) → t ≡ turn_of result → IsStranger tokens o.player.now
        → Consumes i j ((line ++ 10 ∷ []) ++ bytes) → Grew v w [] [] 0 → SaidBy p q unknown_player result → Turned tokens i j p q v w t
    nobody_turn result is nobody consumed grew s =
        once ((line ++ 10 ∷ []) ++ bytes) [] [] 0 unknown_player (offers_for_nobody o (line ++ 10 ∷ []) bytes offers nobody) consumed grew t result is s

    pub another_turn : {T : Type 0} (result : Result T Stop) → t ≡ turn_of result → (entry : ℕ × List ℕ) → IsListed tokens o.player.now entry → entry.1 ≢ o.token.now
        → Consumes i j ((line ++ 10 ∷ []) ++ bytes) → Grew v w [] [] 0 → SaidBy p q wrong_token result → Turned tokens i j p q v w t
    another_turn result is entry listed other consumed grew s =
        once ((line ++ 10 ∷ []) ++ bytes) [] [] 0 wrong_token (offers_by_another o (line ++ 10 ∷ []) bytes offers entry listed other) consumed grew t result is s

    pub offer_turn : {T : Type 0} (result : Result T Stop) → t ≡ turn_of result → (entry : ℕ × List ℕ) → IsListed tokens o.player.now entry → entry.1 ≡ o.token.now
        → (sent : Sent) → sent.bytes.items ≡ bytes → sent.player ≡ entry.0
        → Consumes i j ((line ++ 10 ∷ []) ++ bytes) → UploadTold sent p q v w result → Turned tokens i j p q v w t
    offer_turn result is entry listed same sent its by consumed told = offer_cases told.said where
      offer_cases : (Grew v w [] (sent ∷ []) 0 × SaidBy p q queued result) ⊎ (Grew v w [] [] 1 × SaidBy p q full result) → Turned tokens i j p q v w t
      offer_cases (inl (grew, s)) = once ((line ++ 10 ∷ []) ++ sent.bytes.items) [] (sent ∷ []) 0 queued
          (is_queued o (line ++ 10 ∷ []) sent (subst (λ (l : List ℕ). Offers o (line ++ 10 ∷ []) l) (sym its) offers) entry listed same by)
          (subst (λ (l : List ℕ). Consumes i j ((line ++ 10 ∷ []) ++ l)) (sym its) consumed) grew t result is s
      offer_cases (inr (grew, s)) = once ((line ++ 10 ∷ []) ++ bytes) [] [] 1 full
          (finds_full o (line ++ 10 ∷ []) bytes offers entry listed same) consumed grew t result is s

  over : (t : Turn) (end : SessionEnd) → t ≡ Over end → Turned tokens i j p q v w (Over end) → Turned tokens i j p q v w t
  over t end is h = subst (λ (u : Turn). Turned tokens i j p q v w u) (sym is) h

  pub quit_turn : (line : List ℕ) (t : Turn) → IsShort line → Spells (words line) Quits
      → Consumes i j (line ++ 10 ∷ []) → Grew v w [] [] 0 → LastSaid p q bye Quit t → Turned tokens i j p q v w t
  quit_turn line t short asked consumed grew (inl (is, s)) = over t Quit is (record {
    heard = line ++ 10 ∷ [];
    said = bye;
    lasts = quits line (line ++ 10 ∷ []) (is_line line short) asked;
    consumed = consumed;
    appended = s;
    grew = grew;
  })
  quit_turn line t short asked consumed grew (inr (is, s)) = over t LinkFault is (last_torn (line ++ 10 ∷ []) bye Quit (quits line (line ++ 10 ∷ []) (is_line line short) asked) consumed grew s)

  pub bad_turn : (cut : Bool) (heard : List ℕ) (t : Turn) → IsBad cut heard → (cut ≡ true → IsAtEnd j)
      → Consumes i j heard → Grew v w [] [] 0 → LastSaid p q bad BadRequest t → Turned tokens i j p q v w t
  bad_turn cut heard t is_bad ended consumed grew (inl (is, s)) = over t BadRequest is (record {
    cut = cut;
    heard = heard;
    is_bad = is_bad;
    ended = ended;
    consumed = consumed;
    appended = s;
    grew = grew;
  })
  bad_turn cut heard t is_bad ended consumed grew (inr (is, s)) = over t LinkFault is (last_torn heard bad BadRequest (fails cut heard is_bad) consumed grew s)

-- the input ended before a request
pub end_turn : (tokens : List (ℕ × List ℕ)) (i j p q : Option (List ℕ)) (v : Pass) → Consumes i j [] → IsAtEnd j → q ≡ p → (hand v).fulls < 2 ^ 64 → Turned tokens i j p q v v (Over Ended)
end_turn tokens i j p q v consumed at_end same few = (
  record {
    heard = [];
    said = [];
    lasts = ends;
    consumed = consumed;
    appended = no_more p q same;
    grew = still v few;
  },
  at_end,
)
