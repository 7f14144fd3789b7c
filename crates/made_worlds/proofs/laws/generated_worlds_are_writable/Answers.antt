use Rattle.made_worlds.proofs.Writable.{accepted, of_types, writable}
use Rattle.made_worlds.proofs.laws.generated_worlds_are_writable.Goals as goal

pub returns : goal.returns
returns c = record { writable = writable; of_types = of_types; accepted = accepted }
