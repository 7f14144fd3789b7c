-- Ticks that were served, as far as the disk goes.
use Rattle.std.specs.Prelude.{ℕ, List, Option, IfSome}
use Rattle.object_store.specs.Stored.{Stored}
use Rattle.run_status.specs.declared.status.Status.{Status}
use Rattle.served_ticks.specs.Serving.{Serves}
use Rattle.tick_journal.specs.declared.tick_record.TickRecord.{TickRecord}
use Rattle.world_hub.specs.declared.queue.Hand.{Hand}
use Rattle.world_hub.specs.declared.status.Sight.{Sight}
use Rattle.world_io.specs.Moments.{Moment}
use Rattle.world_journal.specs.Journals.{HasJournal}
use Rattle.world_journal.specs.Recovering.{HasRecovered}
use Rattle.world_journal.specs.declared.recovered.Recovered.{Recovered}

-- Ticks were served over this disk, and over some ticker.
unfoldable pub ServesTicks : Stored → List TickRecord → ℕ → ℕ → Option (List ℕ) → List Moment → ℕ
    → Option (List ℕ) → List Moment → ℕ → Status → Type 0
ServesTicks base entries gate ticks seen moments faults after later risen status =
    (hand : Hand) × (taken : Hand) × (sight : Sight) × (told : Sight)
    × Serves base entries gate ticks
    (record { disk = seen; moments = moments; faults = faults; hand = hand; sight = sight })
    (record { disk = after; moments = later; faults = risen; hand = taken; sight = told }) status

-- Ticks of the journal that was recovered were served so, whatever its records are.
unfoldable pub ServesFound : Recovered → ℕ → Option (List ℕ) → List Moment → ℕ → Option (List ℕ)
    → List Moment → ℕ → Status → Type 0
ServesFound found ticks seen moments faults after later risen status =
    (entries : List TickRecord) → HasRecovered entries found
    → IfSome seen (λ bytes. HasJournal found.base entries found.journal.log.gate seen moments)
    → ServesTicks found.base entries found.journal.log.gate ticks seen moments faults after later risen status
