use Rattle.hub_batches.proofs.InOrder.{events_tell_in_order}
use Rattle.hub_batches.proofs.Got.{got_in_order}
use Rattle.hub_batches.proofs.events_tell_in_order.Goals as goal

pub returns-clause-told : goal.returns-clause-told
returns-clause-told c = events_tell_in_order

pub returns-clause-got : goal.returns-clause-got
returns-clause-got c = got_in_order
