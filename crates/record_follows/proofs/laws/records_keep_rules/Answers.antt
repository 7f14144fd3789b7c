use Rattle.record_follows.proofs.Lasting.{places_stay, rules_stay, tiles_stay}
use Rattle.record_follows.proofs.laws.records_keep_rules.Goals as goal

pub returns : goal.returns
returns c = record { rules = rules_stay; tiles = tiles_stay; places = places_stay }
