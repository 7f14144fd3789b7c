use Rattle.call_agreement.proofs.Claimed.{claims_agree}
use Rattle.call_agreement.proofs.Sited.{sites_agree}
use Rattle.call_agreement.proofs.Standing.{removals_agree, spawns_agree}
use Rattle.call_agreement.proofs.more_calls_agree_with_rules.Goals as goal

pub returns-clause-claims : goal.returns-clause-claims
returns-clause-claims c = claims_agree

pub returns-clause-sites : goal.returns-clause-sites
returns-clause-sites c = sites_agree

pub returns-clause-removals : goal.returns-clause-removals
returns-clause-removals c = removals_agree

pub returns-clause-spawns : goal.returns-clause-spawns
returns-clause-spawns c = spawns_agree
