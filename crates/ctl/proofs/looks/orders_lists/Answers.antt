use Rattle.ctl.proofs.Ordering.{orders_lists}
use Rattle.ctl.proofs.looks.orders_lists.Goals as goal

pub returns : goal.returns
returns c = orders_lists
