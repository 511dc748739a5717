use Rattle.ctl.proofs.Agreement.{verdict_by_sets}
use Rattle.ctl.proofs.setwise.setwise_judges.Goals as goal

pub returns : goal.returns
returns c = verdict_by_sets
