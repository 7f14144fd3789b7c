-- The slice from the first live part on is the live parts.
use Rattle.std.proofs.Common.{◌≡◌, ℕ, ◌+◌, ◌-◌, ◌/◌, ◌%◌, min, List, length, take, drop, sym, ap, ◌∙◌, arith}
use Rattle.std.proofs.lemmas.List.{take_rest}
use Rattle.game_tables.specs.Bodies.{live_parts}
use Rattle.game_tables.specs.declared.kind.Part.{Part}
use Rattle.game_tables.proofs.Live.{live_is}
use Rattle.game_tables.proofs.body.Body.live_parts.Goals as goal

from_first_live : (hits dead : ℕ) (parts whole : List Part) → whole ≡ parts → dead ≡ length whole - (hits / 100 + min 1 (hits % 100)) → take (length whole - dead) (drop dead whole) ≡ live_parts hits parts
from_first_live hits dead parts whole same e =
    take_rest whole dead ∙ ap (λ (k : ℕ). drop k whole) e
    ∙ sym (live_is hits (hits / 100 + min 1 (hits % 100)) whole (omega arith) (omega arith)) ∙ ap (live_parts hits) same

pub returns-clause-same : goal.returns-clause-same
returns-clause-same c = from_first_live _ _ _ _ c.parts-parts.ensures.same (c.saturating_sub-dead.ensures ∙ ap (λ (k : ℕ). length c.parts-parts.result.now - k) c.div_ceil.ensures)
