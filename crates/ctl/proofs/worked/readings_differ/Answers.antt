use Rattle.ctl.proofs.Computed.{differ}
use Rattle.ctl.proofs.worked.readings_differ.Goals as goal

pub returns : goal.returns
returns c = differ
