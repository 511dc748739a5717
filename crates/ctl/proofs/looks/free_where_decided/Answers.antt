use Rattle.ctl.proofs.Looking.{free_where_decided}
use Rattle.ctl.proofs.looks.free_where_decided.Goals as goal

pub returns : goal.returns
returns c = free_where_decided
