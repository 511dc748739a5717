use Rattle.ctl.proofs.Judging.{means}
use Rattle.ctl.proofs.verdicts.verdicts_mean.Goals as goal

pub returns : goal.returns
returns c = means
