use Rattle.room_commutes.specs.Orders.{of_action}
use Rattle.room_commutes.proofs.Ordered.{in_order-same, in_order-sorted, kept-rises, one_order as one_order_is}
use Rattle.room_commutes.proofs.ActorsOnce.{actors_once}
use Rattle.room_commutes.proofs.entry_order.entries_in_order.Goals as goal

pub returns : goal.returns
returns c = record {
  same = λ list. in_order-same list;
  sorted = λ list. in_order-sorted list;
  same_of_action = λ action list. in_order-same (of_action action list);
  sorted_of_action = λ action list. in_order-sorted (of_action action list);
  rises = λ world list action. kept-rises world list action;
  once = λ world list action object. actors_once world list action object;
  one_order = λ one other same rises also. one_order_is one other same rises also;
}
