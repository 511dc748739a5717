use Rattle.ctl.proofs.Agreement.{own_cost_by_operator}
use Rattle.ctl.proofs.setwise.setwise_costs.Goals as goal

pub returns : goal.returns
returns c = own_cost_by_operator
