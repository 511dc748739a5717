use Rattle.ctl.proofs.Looking.{free_node}
use Rattle.ctl.proofs.looks.free_node_loses_nothing.Goals as goal

pub returns : goal.returns
returns c = free_node
