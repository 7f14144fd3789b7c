-- Turns one after another.
use Rattle.std.proofs.Common.{◌≡◌, ℕ, ◌+◌, ◌-◌, ◌^◌, min, List, ◌++◌, ap, ◌∙◌, arith, append_assoc}
use Rattle.std.proofs.lemmas.Grind.{common_steps}
use Rattle.world_hub.specs.declared.queue.Upload.{Upload as Sent}
use Rattle.world_hub.specs.declared.status.Shown.{Shown}
use Rattle.world_hub.specs.declared.hub.Pass.{Pass}
use Rattle.world_hub.specs.Hub.{hand, sight}
use Rattle.status_session.specs.Served.{Grew}

pub min_more : (a b c f g m : ℕ) → b ≡ min (a + f) m → c ≡ min (b + g) m → c ≡ min (a + (f + g)) m
min_more a b c f g m h k = grind (arith, common_steps, h, k)

pub grew_more : (p q r : Pass) (reads more_reads : List Shown) (offers more_offers : List Sent) (fulls more_fulls : ℕ) → Grew p q reads offers fulls → Grew q r more_reads more_offers more_fulls
    → Grew p r (reads ++ more_reads) (offers ++ more_offers) (fulls + more_fulls)
grew_more p q r reads more_reads offers more_offers fulls more_fulls h k = record {
  reads_grew = k.reads_grew ∙ ap (λ l. l ++ more_reads) h.reads_grew ∙ append_assoc (sight p).reads reads more_reads;
  offers_grew = k.offers_grew ∙ ap (λ l. l ++ more_offers) h.offers_grew ∙ append_assoc (hand p).offers offers more_offers;
  fulls_rose = min_more (hand p).fulls (hand q).fulls (hand r).fulls fulls more_fulls (2 ^ 64 - 1) h.fulls_rose k.fulls_rose;
}
