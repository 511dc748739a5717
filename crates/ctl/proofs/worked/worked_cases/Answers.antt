use Rattle.ctl.proofs.Computed.{worked}
use Rattle.ctl.proofs.worked.worked_cases.Goals as goal

pub returns : goal.returns
returns c = worked
