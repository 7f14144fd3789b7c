use Rattle.room_rules.proofs.Rules.{begun_leads, first_lead, later_lead, rule_keeps}
use Rattle.room_rules.proofs.Moved.{keeps_moved}
use Rattle.room_rules.proofs.Steps.{keeps_rest}
use Rattle.room_rules.proofs.rules_keep_rooms.Goals as goal

pub returns : goal.returns
returns c = record {
  begins = begun_leads;
  entries = λ entry players part k. rule_keeps entry.action entry players part k;
  movement = λ list once players part k. keeps_moved players list part once k;
  first = first_lead;
  later = later_lead;
  rest = keeps_rest;
}
