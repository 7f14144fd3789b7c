-- From turns to a session.
use Rattle.std.proofs.Common.{◌≡◌, ℕ, ◌+◌, ◌-◌, ◌^◌, ◌<◌, min, List, [], ◌++◌, take, Option, Some, None, ap, refl, ◌∙◌, subst, arith}
use Rattle.std.proofs.lemmas.List.{append-nil}
use Rattle.std.specs.Io.KnownBytes.{Consumes, Appends}
use Rattle.world_io.proofs.Known.{consumes_more, appends_more}
use Rattle.world_hub.specs.declared.hub.Pass.{Pass}
use Rattle.world_hub.specs.Hub.{hand, sight}
use Rattle.status_session.specs.declared.session.SessionEnd.{SessionEnd}
use Rattle.status_session.specs.declared.session.SessionEnd.TheVariants.{Quit, Ended, LinkFault, BadRequest, Spent, Memory}
use Rattle.status_session.specs.Replies.{bad}
use Rattle.status_session.specs.Session.{Course, begins, goes_on, Lasts, fails, finishes, spends}
use Rattle.status_session.specs.Served.{Grew, Whole, Broken, BadAtLast, Served}
use Rattle.status_session.specs.inner.Turned.{Gone, Once, Last, Refused, Torn, Ends}
use Rattle.status_session.proofs.Going.{grew_more}
use Rattle.status_session.proofs.Growing.{still}
use Rattle.status_session.proofs.Turns.{no_more}

consumes_none : (a : Option (List ℕ)) → Consumes a a []
consumes_none None = tt
consumes_none (Some xs) = refl

-- nothing was asked yet
pub begun : (tokens : List (ℕ × List ℕ)) (i p : Option (List ℕ)) (v : Pass) → (hand v).fulls < 2 ^ 64 → Gone tokens i i p p v v 0
begun tokens i p v few = record {
  heard = [];
  reads = [];
  offers = [];
  fulls = 0;
  said = [];
  course = begins;
  consumed = consumes_none i;
  appended = no_more p p refl;
  grew = still v few;
}

module _ (tokens : List (ℕ × List ℕ)) (i j k p q r : Option (List ℕ)) (u v w : Pass) (n : ℕ) (gone : Gone tokens i j p q u v n) (more : n < 65536) where
  pub goes_once : Once tokens j k q r v w → Gone tokens i k p r u w (n + 1)
  goes_once o = record {
    heard = gone.heard ++ o.heard;
    reads = gone.reads ++ o.reads;
    offers = gone.offers ++ o.offers;
    fulls = gone.fulls + o.fulls;
    said = gone.said ++ o.said;
    course = goes_on gone.course more o.answers;
    consumed = consumes_more i j k gone.heard o.heard gone.consumed o.consumed;
    appended = appends_more p q r gone.said o.said gone.appended o.appended;
    grew = grew_more u v w gone.reads o.reads gone.offers o.offers gone.fulls o.fulls gone.grew o.grew;
  }

  more_still : Grew v w [] [] 0 → Grew u w gone.reads gone.offers gone.fulls
  more_still g = let all = grew_more u v w gone.reads [] gone.offers [] gone.fulls 0 gone.grew g in record {
    reads_grew = all.reads_grew ∙ ap (λ l. (sight u).reads ++ l) (append-nil gone.reads);
    offers_grew = all.offers_grew ∙ ap (λ l. (hand u).offers ++ l) (append-nil gone.offers);
    fulls_rose = let same : gone.fulls + 0 ≡ gone.fulls = omega arith in subst (λ (m : ℕ). (hand w).fulls ≡ min ((hand u).fulls + m) (2 ^ 64 - 1)) same all.fulls_rose;
  }

  whole : (end : SessionEnd) (heard said : List ℕ) → Lasts heard said end → Consumes j k heard → Appends q r said → Grew v w [] [] 0 → Whole tokens i k p r u w end
  whole end heard said last consumed appended g = record {
    heard = gone.heard ++ heard;
    reads = gone.reads;
    offers = gone.offers;
    fulls = gone.fulls;
    said = gone.said ++ said;
    session = finishes gone.course more last;
    consumed = consumes_more i j k gone.heard heard gone.consumed consumed;
    appended = appends_more p q r gone.said said gone.appended appended;
    grew = more_still g;
  }

  last_whole : (end : SessionEnd) → Last tokens j k q r v w end → Whole tokens i k p r u w end
  last_whole end l = whole end l.heard l.said l.lasts l.consumed l.appended l.grew

  bad_last : Refused tokens j k q r v w → BadAtLast tokens i k p r u w
  bad_last l = record {
    n = n;
    heard = gone.heard;
    reads = gone.reads;
    offers = gone.offers;
    fulls = gone.fulls;
    said = gone.said;
    last_heard = l.heard;
    cut = l.cut;
    course = gone.course;
    fewer = more;
    is_bad = l.is_bad;
    ended = l.ended;
    consumed = consumes_more i j k gone.heard l.heard gone.consumed l.consumed;
    appended = appends_more p q r gone.said bad gone.appended l.appended;
    grew = more_still l.grew;
  }

  broken : Torn tokens j k q r v w → Broken tokens i k p r u w
  broken t = record {
    n = n;
    heard = gone.heard;
    reads = gone.reads;
    offers = gone.offers;
    fulls = gone.fulls;
    said = gone.said;
    last_heard = t.heard;
    last_reads = t.reads;
    last_offers = t.offers;
    last_fulls = t.fulls;
    last_said = t.said;
    that_many = t.appended.0;
    course = gone.course;
    fewer = more;
    step = t.step;
    consumed = consumes_more i j k gone.heard t.heard gone.consumed t.consumed;
    appended = appends_more p q r gone.said (take t.appended.0 t.said) gone.appended t.appended.1;
    grew = grew_more u v w gone.reads t.reads gone.offers t.offers gone.fulls t.fulls gone.grew t.grew;
  }

  pub ended_by : (end : SessionEnd) → Ends tokens j k q r v w end → Served tokens i k p r u w end
  ended_by Quit l = last_whole Quit l
  ended_by Ended l = (last_whole Ended l.0, l.1)
  ended_by BadRequest l = (whole BadRequest l.heard bad (fails l.cut l.heard l.is_bad) l.consumed l.appended l.grew, bad_last l)
  ended_by Spent l = absurd l
  ended_by LinkFault t = broken t
  ended_by Memory t = broken t

pub spent : (tokens : List (ℕ × List ℕ)) (i j p q : Option (List ℕ)) (u v : Pass) (n : ℕ) → n ≡ 65536 → Gone tokens i j p q u v n → Whole tokens i j p q u v Spent
spent tokens i j p q u v n is gone = record {
  heard = gone.heard;
  reads = gone.reads;
  offers = gone.offers;
  fulls = gone.fulls;
  said = gone.said;
  session = spends (subst (λ (m : ℕ). Course tokens m gone.heard gone.reads gone.offers gone.fulls gone.said) is gone.course);
  consumed = gone.consumed;
  appended = gone.appended;
  grew = gone.grew;
}
